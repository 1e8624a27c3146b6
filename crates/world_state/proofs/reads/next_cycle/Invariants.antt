use Rattle.std.proofs.Common.{◌≡◌, drop}
use Rattle.world_state.specs.Prelude.{next_of}
use Rattle.world_state.proofs.reads.next_cycle.Given as goal

abbrev pub invariant-loop-i : goal.invariant-loop-i
invariant-loop-i l = l.least ≡ next_of l.now l.fn.next (drop l.i l.places)
