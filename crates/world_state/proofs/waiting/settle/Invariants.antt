use Rattle.std.proofs.Common.{◌≡◌, reverse, vec_len}
use Rattle.std.specs.List.{All, AllPairs}
use Rattle.ctl_face.specs.Prelude.{Ctl}
use Rattle.world_state.specs.Prelude.{HasRoom, HaveOwnNumbers, Takes, made_by, place_with, with_parcels}
use Rattle.world_state.proofs.waiting.settle.Given as goal

-- what is left can still come, and when it has come all have
abbrev pub invariant-loop-p : goal.invariant-loop-p
invariant-loop-p l = record {
  takes : All (λ m. Takes m l.place) (reverse l.list.items);
  apart : AllPairs HaveOwnNumbers (reverse l.list.items);
  room : HasRoom (vec_len l.list) l.place;
  come :
      (held : Ctl)
      → with_parcels (place_with held l.place).controller (reverse l.list.items)
      ≡ with_parcels (place_with held l.initial.place).controller (reverse l.initial.list.items);
  rest : (held : Ctl) → place_with held l.place ≡ record (place_with held l.initial.place) { controller = (place_with held l.place).controller };
  made : made_by l.place.keeper ≡ made_by l.initial.place.keeper;
}

abbrev pub decreases-loop-p : goal.decreases-loop-p
decreases-loop-p l = vec_len l.list
