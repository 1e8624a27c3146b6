use Rattle.std.proofs.Common.{◌≡◌, drop}
use Rattle.std.specs.List.{position_from}
use Rattle.world_state.specs.Prelude.{has_stopped}
use Rattle.world_state.proofs.reads.least_stopped.Given as goal

abbrev pub invariant-loop-c : goal.invariant-loop-c
invariant-loop-c l = position_from has_stopped l.c (drop l.c l.places) ≡ position_from has_stopped 0 l.places
