-- Places after one of them has changed.
use Rattle.std.proofs.Common.{◌≡◌, ◌<◌, ℕ, zero, suc, List, [], ◌∷◌, length, get_or, set, refl, arith}
use Rattle.std.proofs.lemmas.List.{map-set}
use Rattle.std.proofs.Math.Seq.{map-set_same}
use Rattle.protocol_runs.specs.World as runs
use Rattle.ctl_face.specs.Prelude.{Ctl}
use Rattle.world_state.specs.declared.place.Place.{Place}
use Rattle.world_state.specs.Prelude.{made_by, made_in, place_with, places_with}

module _ (items : List Place) (k : ℕ) (d y : Place) where
  pub place-same : (held : Ctl) → place_with held y ≡ place_with held (get_or items k d) → places_with held (set items k y) ≡ places_with held items
  place-same held is = map-set_same (place_with held) items k y d is

  pub made-same : made_by y.keeper ≡ made_by (get_or items k d).keeper → made_in (set items k y) ≡ made_in items
  made-same is = map-set_same (λ (p : Place). made_by p.keeper) items k y d is

pub place-set : (held : Ctl) (items : List Place) (k : ℕ) (y : Place) → places_with held (set items k y) ≡ set (places_with held items) k (place_with held y)
place-set held items k y = map-set (place_with held) items k y

-- the place of a run, read at its number
pub place-read : (held : Ctl) (items : List Place) (k : ℕ) (d : Place) (e : runs.Place Ctl) → k < length items → place_with held (get_or items k d) ≡ get_or (places_with held items) k e
place-read held [] k d e lt = absurd (omega arith)
place-read held (y ∷ items) zero d e lt = refl
place-read held (y ∷ items) (suc k) d e lt = place-read held items k d e (omega arith)
