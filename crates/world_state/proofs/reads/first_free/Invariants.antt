use Rattle.std.proofs.Common.{◌≡◌, drop}
use Rattle.std.specs.List.{position_from}
use Rattle.world_state.specs.Prelude.{is_free}
use Rattle.world_state.proofs.reads.first_free.Given as goal

abbrev pub invariant-loop-c : goal.invariant-loop-c
invariant-loop-c l = position_from (is_free l.now) l.c (drop l.c l.places) ≡ position_from (is_free l.now) 0 l.places
