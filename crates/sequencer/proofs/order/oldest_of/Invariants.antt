use Rattle.std.proofs.Common.{◌≡◌, ◌≤◌, length, drop}
use Rattle.std.specs.Option.{option_copied}
use Rattle.sequencer.specs.Prelude.{oldest_of}
use Rattle.sequencer.proofs.order.oldest_of.Given as goal

-- the oldest of those from the place on
abbrev pub invariant-loop-at : goal.invariant-loop-at
invariant-loop-at l = (l.at ≤ length l.requests) × (option_copied l.oldest ≡ oldest_of (drop l.at l.requests))

abbrev pub decreases-loop-at : goal.decreases-loop-at
decreases-loop-at l = l.at
