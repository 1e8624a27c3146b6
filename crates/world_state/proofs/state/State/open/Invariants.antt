use Rattle.std.proofs.Common.{◌≡◌, false, map}
use Rattle.world_state.specs.declared.place.Kept.{Kept}
use Rattle.world_state.specs.Prelude.{home_place}
use Rattle.world_state.proofs.state.State.open.Given as goal

abbrev pub invariant-loop-k : goal.invariant-loop-k
invariant-loop-k g l = l.places.items ≡ map (λ (k : Kept). home_place k false) l.yielded
