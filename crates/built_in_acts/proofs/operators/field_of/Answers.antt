use Rattle.std.proofs.Common.{sym, ◌∙◌}
use Rattle.acts.specs.declared.body_fault.BodyFault.TheVariants as own
use Rattle.acts.specs.Prelude.{Get, act, itself}
use Rattle.acts.proofs.Walk.{found_does}
use Rattle.built_in_acts.specs.Prelude.{field_of, reference}
use Rattle.built_in_acts.proofs.operators.field_of.Goals as goal

pub returns : goal.returns
unfolding field_of
returns g c =
    found_does itself (λ r. act (Get r c.args.field)) (reference c.args.v.now) own.Reference c.in-Some.r c.get.result _ _ (sym c.reference.ensures ∙ c.in-Some.is) c.get.ensures
