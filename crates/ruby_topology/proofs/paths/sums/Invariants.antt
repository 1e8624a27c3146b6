use Rattle.std.proofs.Common.{◌≡◌, ◌<◌, ℕ, Some, length, get_or}
use Rattle.ruby_topology.specs.Prelude.{mark_at, sum_at}
use Rattle.ruby_topology.proofs.paths.sums.Given as goal

abbrev pub invariant-loop-mark : goal.invariant-loop-mark
invariant-loop-mark l =
    (length l.row ≡ l.mark-index) × ((v : ℕ) → v < l.mark-index → sum_at (mark_at l.marks v) ≡ Some (get_or l.row v 0))
