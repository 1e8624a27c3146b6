-- Looking for the first declaration that passes a test.
use Rattle.std.proofs.Common.{◌≡◌, ◌<◌, ◌+◌, ℕ, Bool, true, false, cond, List, [], ◌∷◌, ◌++◌, map, find, take, drop, None, Some, refl, sym, ap, ◌∙◌, add-one, slice_index_or, length}
use Rattle.std.proofs.Math.Seq.{take-suc}
use Rattle.std.proofs.lemmas.List.{map-append, take-append-drop}
use Rattle.std.proofs.lemmas.List.Folds.{find-append}
use Rattle.std.specs.Option.{option_or}

module _ {X Y : Type 0} (test : Y → Bool) (f : X → Y) (xs : List X) (i : ℕ) (d : X) where
  mapped : i < length xs → d ≡ slice_index_or xs i d → map f (take (i + 1) xs) ≡ map f (take i xs) ++ f d ∷ []
  mapped below is =
      let taken : take (i + 1) xs ≡ take i xs ++ slice_index_or xs i d ∷ [] = rw (add-one, take-suc xs i d below) refl in
      ap (map f) taken ∙ map-append f (take i xs) (slice_index_or xs i d ∷ []) ∙ ap (λ y. map f (take i xs) ++ f y ∷ []) (sym is)

  pub none_more : (b : Bool) → i < length xs → d ≡ slice_index_or xs i d → b ≡ test (f d) → b ≡ false → find test (map f (take i xs)) ≡ None → find test (map f (take (i + 1) xs)) ≡ None
  none_more b below is tested miss none =
      ap (find test) (mapped below is) ∙ find-append test (map f (take i xs)) (f d ∷ [])
      ∙ ap (λ o. option_or o (find test (f d ∷ []))) none ∙ ap (λ c. cond c (Some (f d)) None) (sym tested ∙ miss)

  pub found_now : (b : Bool) → i < length xs → d ≡ slice_index_or xs i d → b ≡ test (f d) → b ≡ true → find test (map f (take i xs)) ≡ None → find test (map f xs) ≡ Some (f d)
  found_now b below is tested hit none =
      let next : find test (map f (take (i + 1) xs)) ≡ Some (f d) =
      ap (find test) (mapped below is) ∙ find-append test (map f (take i xs)) (f d ∷ [])
      ∙ ap (λ o. option_or o (find test (f d ∷ []))) none ∙ ap (λ c. cond c (Some (f d)) None) (sym tested ∙ hit) in
      ap (λ ys. find test (map f ys)) (sym (take-append-drop (i + 1) xs)) ∙ ap (find test) (map-append f (take (i + 1) xs) (drop (i + 1) xs))
      ∙ find-append test (map f (take (i + 1) xs)) (map f (drop (i + 1) xs)) ∙ ap (λ o. option_or o (find test (map f (drop (i + 1) xs)))) next
