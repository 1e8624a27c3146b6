use Rattle.std.proofs.Common.{◌≡◌}
use Rattle.std.specs.List.{AllWithin}
use Rattle.ctl_face.specs.Prelude.{Ctl}
use Rattle.world_state.specs.Prelude.{HasRoom, made_in, places_with}
use Rattle.world_state.proofs.requests.room_for_all.Given as goal

abbrev pub invariant-loop-place : goal.invariant-loop-place
invariant-loop-place l = record {
  same : (held : Ctl) → places_with held l.places ≡ places_with held l.fn.places;
  made : made_in l.places ≡ made_in l.fn.places;
  ok : AllWithin (HasRoom l.parcels) l.places 0 l.place-index;
}
