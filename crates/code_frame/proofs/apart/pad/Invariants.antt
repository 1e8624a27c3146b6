use Rattle.std.proofs.Common.{◌≡◌, ◌+◌, ◌-◌, ℕ, length}
use Rattle.code_frame.specs.Prelude.{value_at}
use Rattle.code_frame.proofs.apart.pad.Given as goal

abbrev pub invariant-loop-apart : goal.invariant-loop-apart
invariant-loop-apart l = (k : ℕ) → value_at l.apart.items k ≡ value_at l.initial.apart.items k

abbrev pub decreases-loop-apart : goal.decreases-loop-apart
decreases-loop-apart l = l.at + 1 - length l.apart.items
