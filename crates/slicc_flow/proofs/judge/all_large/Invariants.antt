use Rattle.std.proofs.Common.{◌≡◌, drop}
use Rattle.slicc_plan.specs.Prelude.{first_after}
use Rattle.slicc_flow.specs.Prelude.{large_of, each_from}
use Rattle.slicc_flow.proofs.judge.all_large.Given as goal

abbrev pub invariant-loop-number : goal.invariant-loop-number
invariant-loop-number l =
    first_after l.initial.first (each_from large_of 0 l.machines) ≡ first_after l.first (each_from large_of l.number (drop l.number l.machines))
