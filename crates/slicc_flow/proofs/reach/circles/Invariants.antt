use Rattle.std.proofs.Common.{◌≡◌, drop}
use Rattle.slicc_plan.specs.Prelude.{circles_among, circles_from, first_after}
use Rattle.slicc_flow.proofs.reach.circles.Given as goal

abbrev pub invariant-loop-number : goal.invariant-loop-number
invariant-loop-number l =
    first_after l.initial.first (circles_among l.machine l.functions) ≡ first_after l.first (circles_from l.machine l.functions l.number (drop l.number l.functions))
