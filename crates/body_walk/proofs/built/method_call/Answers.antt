use Rattle.std.proofs.Common.{length, refl, sym, ap, subst, ◌∙◌}
use Rattle.std.proofs.lemmas.Result.{err_from_is_err_and}
use Rattle.ruby_value.specs.declared.fault.Fault.TheVariants.{Reference}
use Rattle.acts.specs.declared.body_fault.BodyFault.TheVariants as own
use Rattle.acts.specs.Prelude.{DoesAs, itself}
use Rattle.acts.proofs.Walk.{does_without_memory, found_does, found_stops}
use Rattle.body_meaning.specs.declared.thing.Numbered.{Numbered}
use Rattle.body_meaning.specs.Prelude.{called_on, method_call, thing_built, with_receiver, reading}
use Rattle.body_walk.proofs.built.method_call.Goals as goal

pub returns-in_default : goal.returns-in_default
unfolding method_call
returns-in_default g c =
    let m = c.args.s.machine.now in
    rw c.from.ensures
    (found_stops itself (λ (n : Numbered). thing_built (reading c.args.s) n.number n.on (with_receiver c.args.receiver c.args.arguments))
    (called_on m c.args.receiver c.args.name.now (length c.args.arguments)) own.Reference Reference _ _
    (sym (c.called_on.ensures ∙ ap (λ k. called_on m c.args.receiver c.args.name.now k) c.len.ensures) ∙ c.in_default.is) refl)

pub returns-in_err-all : goal.returns-in_err-all
returns-in_err-all g c =
    let p = err_from_is_err_and c.from_residual.result c.from_residual.ensures.1 in rw (p.1, p.2) (does_without_memory itself _ _ _)

pub returns : goal.returns
unfolding method_call
returns g c =
    let m = c.args.s.machine.now in
    found_does itself (λ (n : Numbered). thing_built (reading c.args.s) n.number n.on (with_receiver c.args.receiver c.args.arguments))
    (called_on m c.args.receiver c.args.name.now (length c.args.arguments)) own.Reference
    c.in-Some.call c.thing_built.result _ _
    (sym (c.called_on.ensures ∙ ap (λ k. called_on m c.args.receiver c.args.name.now k) c.len.ensures) ∙ c.in-Some.is)
    (subst (λ vs. DoesAs itself (thing_built (reading c.args.s) c.in-Some.call.number c.in-Some.call.on vs) c.thing_built.result (g.T.Local.view c.args.local.now) (g.T.Local.view c.thing_built.new.local))
    (c.deref.ensures ∙ c.in_ok-all.ensures) c.thing_built.ensures)
