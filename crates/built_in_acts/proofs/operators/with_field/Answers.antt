use Rattle.std.proofs.Common.{sym, ◌∙◌}
use Rattle.acts.specs.declared.body_fault.BodyFault.TheVariants as own
use Rattle.acts.specs.Prelude.{Set, act, itself}
use Rattle.acts.proofs.Walk.{found_does}
use Rattle.built_in_acts.specs.Prelude.{with_field, reference}
use Rattle.built_in_acts.proofs.operators.with_field.Goals as goal

pub returns : goal.returns
unfolding with_field
returns g c =
    found_does itself (λ r. act (Set r c.args.field c.args.new)) (reference c.args.v.now) own.Reference c.in-Some.r c.set.result _ _ (sym c.reference.ensures ∙ c.in-Some.is) c.set.ensures
