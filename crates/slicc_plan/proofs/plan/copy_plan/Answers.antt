use Rattle.std.proofs.Common.{◌∙◌, ap, sym}
use Rattle.slicc_plan.specs.Prelude.{symbols_of}
use Rattle.slicc_plan.proofs.Accepted.{accepted_along}
use Rattle.slicc_plan.proofs.plan.copy_plan.Goals as goal

pub invariant_of-result : goal.invariant_of-result
invariant_of-result c = (
  accepted_along _ _ c.in_ok-try_clone.ensures c.plan.invariant.0,
  c.in_ok-try_clone-2.ensures ∙ c.plan.invariant.1 ∙ sym (ap symbols_of c.in_ok-try_clone.ensures),
)
