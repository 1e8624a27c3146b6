use Rattle.std.proofs.Common.{◌≡◌, take}
use Rattle.std.specs.Prelude.{sum_by}
use Rattle.slicc_plan.specs.Prelude.{transition_pairs}
use Rattle.slicc_plan.proofs.counting.pairs.Given as goal

abbrev pub invariant-loop-t : goal.invariant-loop-t
invariant-loop-t l = l.pairs ≡ sum_by transition_pairs (take l.t-index l.machine.transitions)
