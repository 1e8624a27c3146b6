use Rattle.std.proofs.Common.{◌≡◌, drop}
use Rattle.slicc_plan.specs.Prelude.{reached_changes, first_after}
use Rattle.slicc_flow.proofs.changes.seen_changes.Given as goal

abbrev pub invariant-loop-number : goal.invariant-loop-number
invariant-loop-number l =
    first_after l.initial.first (reached_changes l.machine l.functions l.calls 0 l.functions)
    ≡ first_after l.first (reached_changes l.machine l.functions l.calls l.number (drop l.number l.functions))
