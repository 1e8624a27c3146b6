use Rattle.std.proofs.Common.{◌≡◌, ◌++◌, map, take, drop}
use Rattle.std.specs.List.{All}
use Rattle.ctl_face.specs.Prelude.{Ctl}
use Rattle.world_state.specs.Prelude.{begun_at, IsHome, made_in, places_with}
use Rattle.world_state.proofs.place.begin_all.Given as goal

-- those before this one have begun
abbrev pub invariant-loop-place : goal.invariant-loop-place
invariant-loop-place l = record {
  begun :
      (held : Ctl)
      → places_with held l.places
      ≡ map (begun_at l.now) (take l.place-index (places_with held l.fn.places)) ++ drop l.place-index (places_with held l.fn.places);
  made : made_in l.places ≡ made_in l.fn.places;
  home : All IsHome l.places;
}
