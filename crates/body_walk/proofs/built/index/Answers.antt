use Rattle.std.proofs.Common.{[], ◌∷◌, refl, sym, subst, ◌∙◌}
use Rattle.std.proofs.lemmas.Result.{err_from_is_err_and}
use Rattle.ruby_value.specs.declared.fault.Fault.TheVariants.{Reference}
use Rattle.acts.specs.declared.body_fault.BodyFault.TheVariants as own
use Rattle.acts.specs.Prelude.{DoesAs, itself}
use Rattle.acts.proofs.Walk.{does_without_memory, found_does, found_stops}
use Rattle.body_meaning.specs.declared.thing.Numbered.{Numbered}
use Rattle.body_meaning.specs.Prelude.{index, indexed_on, thing_built, reading}
use Rattle.body_walk.proofs.built.index.Goals as goal

pub returns-in_default : goal.returns-in_default
unfolding index
returns-in_default g c =
    rw c.from.ensures
    (found_stops itself (λ (n : Numbered). thing_built (reading c.args.s) n.number n.on (c.args.key ∷ [])) (indexed_on c.args.s.machine.now c.args.receiver.now) own.Reference Reference _ _
    (sym c.indexed_on.ensures ∙ c.in_default.is) refl)

pub returns-in_err-keys : goal.returns-in_err-keys
returns-in_err-keys g c =
    let p = err_from_is_err_and c.from_residual.result c.from_residual.ensures.1 in rw (p.1, p.2) (does_without_memory itself _ _ _)

pub returns : goal.returns
unfolding index
returns g c =
    found_does itself (λ (n : Numbered). thing_built (reading c.args.s) n.number n.on (c.args.key ∷ [])) (indexed_on c.args.s.machine.now c.args.receiver.now) own.Reference
    c.in-Some.call c.thing_built.result _ _ (sym c.indexed_on.ensures ∙ c.in-Some.is)
    (subst (λ vs. DoesAs itself (thing_built (reading c.args.s) c.in-Some.call.number c.in-Some.call.on vs) c.thing_built.result (g.T.Local.view c.args.local.now) (g.T.Local.view c.thing_built.new.local))
    (c.deref.ensures ∙ c.in_ok-keys.ensures) c.thing_built.ensures)
