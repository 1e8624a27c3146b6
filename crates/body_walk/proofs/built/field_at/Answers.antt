use Rattle.std.proofs.Common.{sym, ◌∙◌, refl}
use Rattle.ruby_value.specs.declared.fault.Fault.TheVariants.{Reference}
use Rattle.acts.specs.declared.body_fault.BodyFault.TheVariants as own
use Rattle.acts.specs.Prelude.{itself}
use Rattle.acts.proofs.Walk.{found_does, found_stops}
use Rattle.body_meaning.specs.Prelude.{field_at, line_field, thing_got, reading}
use Rattle.body_walk.proofs.built.field_at.Goals as goal

pub returns-in_default : goal.returns-in_default
unfolding field_at
returns-in_default g c = rw c.from.ensures (found_stops itself _ _ own.Reference Reference _ _ (sym c.line_field.ensures ∙ c.in_default.is) refl)

pub returns : goal.returns
unfolding field_at
returns g c =
    found_does itself (λ k. thing_got c.args.r.now k) (line_field (reading c.args.s) c.args.r.now.table c.args.name.now) own.Reference
    c.in-Some.field c.thing_got.result _ _ (sym c.line_field.ensures ∙ c.in-Some.is) c.thing_got.ensures
