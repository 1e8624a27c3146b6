use Rattle.std.proofs.Common.{sym, ◌∙◌, refl}
use Rattle.ruby_value.specs.declared.fault.Fault.TheVariants.{Reference}
use Rattle.acts.specs.declared.body_fault.BodyFault.TheVariants as own
use Rattle.acts.specs.Prelude.{itself}
use Rattle.acts.proofs.Walk.{found_does, found_stops}
use Rattle.built_in_acts.specs.Prelude.{reference}
use Rattle.body_meaning.specs.Prelude.{field_at, field_through, reading}
use Rattle.body_walk.proofs.built.field_through.Goals as goal

pub returns-in_default : goal.returns-in_default
unfolding field_through
returns-in_default g c = rw c.from.ensures (found_stops itself _ _ own.Reference Reference _ _ (sym c.reference.ensures ∙ c.in_default.is) refl)

pub returns : goal.returns
unfolding field_through
returns g c =
    found_does itself (λ r. field_at (reading c.args.s) c.args.name.now r) (reference c.args.v.now) own.Reference
    c.in-Some.r c.field_at.result _ _ (sym c.reference.ensures ∙ c.in-Some.is) c.field_at.ensures
