use Rattle.std.proofs.Common.{◌∙◌, ap, sym}
use Rattle.slicc_plan.specs.Prelude.{symbols_of}
use Rattle.slicc_plan.proofs.Accepted.{accepted_along}
use Rattle.slicc_plan.proofs.plan.Plan.of.Goals as goal

pub invariant_of-result : goal.invariant_of-result
invariant_of-result c = (
  accepted_along _ _ c.in_ok-new.ensures.ok c.requires.accepted,
  c.in_ok-new-2.ensures.ok ∙ c.requires.symbols ∙ sym (ap symbols_of c.in_ok-new.ensures.ok),
)
