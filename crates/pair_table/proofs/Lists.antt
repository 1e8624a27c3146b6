-- First elements that pass a test, and whether any does.
use Rattle.std.proofs.Common.{◌≡◌, ℕ, zero, suc, ◌+◌, ◌-◌, ◌<◌, ◌≤◌, min, Bool, true, false, cond, not, ◌&&◌, ◌||◌, List, [], ◌∷◌, ◌++◌, map, flat_map, length, take, All, slice_index_or, refl, sym, ap, ◌∙◌, arith, add-one, append-nil}
use Rattle.std.specs.List.{list_any, position_or_len}
use Rattle.std.proofs.lemmas.List.Folds.{list_any-append}
use Rattle.std.proofs.lemmas.Grind.{common_steps, flat_map-append}
use Rattle.std.proofs.Math.Seq.{take-suc}

module _ {X : Type 0} where
  -- of two tests either
  pub first_of_either : (p q : X → Bool) (xs : List X) → position_or_len (λ x. p x || q x) xs ≡ min (position_or_len p xs) (position_or_len q xs)
  first_of_either p q [] = refl
  first_of_either p q (x ∷ xs) = by (p x) (q x) _ _ _ (first_of_either p q xs)
    where
      by : (a b : Bool) (m n o : ℕ) → o ≡ min m n → cond (not (a || b)) (1 + o) 0 ≡ min (cond (not a) (1 + m) 0) (cond (not b) (1 + n) 0)
      by true true m n o e = refl
      by true false m n o e = omega arith
      by false true m n o e = omega arith
      by false false m n o e = omega arith

  pub first_in_front : (p : X → Bool) (xs : List X) (k : ℕ) → k ≤ length xs → position_or_len p (take k xs) ≡ min k (position_or_len p xs)
  first_in_front p [] k le = grind (arith, common_steps)
  first_in_front p (x ∷ xs) zero le = grind arith
  first_in_front p (x ∷ xs) (suc k) le = by (p x) _ _ (first_in_front p xs k (omega arith))
    where
      by : (a : Bool) (m n : ℕ) → m ≡ min k n → cond (not a) (1 + m) 0 ≡ min (suc k) (cond (not a) (1 + n) 0)
      by true m n e = omega arith
      by false m n e = omega arith

  pub first_congr : (p q : X → Bool) (xs : List X) → All (λ x. p x ≡ q x) xs → position_or_len p xs ≡ position_or_len q xs
  first_congr p q [] h = refl
  first_congr p q (x ∷ xs) h =
      let here : p x ≡ q x = h 0 x (omega arith) in
      rw (here, first_congr p q xs (λ k d below. h (suc k) d (omega arith))) refl

  pub any_congr : (p q : X → Bool) (xs : List X) → All (λ x. p x ≡ q x) xs → list_any p xs ≡ list_any q xs
  any_congr p q [] h = refl
  any_congr p q (x ∷ xs) h =
      let here : p x ≡ q x = h 0 x (omega arith) in
      rw (here, any_congr p q xs (λ k d below. h (suc k) d (omega arith))) refl

  pub any_fixed : (b : Bool) (q : X → Bool) (xs : List X) → list_any (λ x. b && q x) xs ≡ (b && list_any q xs)
  any_fixed true q xs = refl
  any_fixed false q [] = refl
  any_fixed false q (x ∷ xs) = any_fixed false q xs

  pub any_with : (b : Bool) (p : X → Bool) (xs : List X) → list_any (λ x. p x && b) xs ≡ (list_any p xs && b)
  any_with b p [] = refl
  any_with b p (x ∷ xs) = by (p x) b _ _ (any_with b p xs)
    where
      by : (a b o n : Bool) → o ≡ (n && b) → (a && b || o) ≡ ((a || n) && b)
      by true true o n e = refl
      by true false true n e = grind arith
      by true false false n e = refl
      by false b o n e = e

module _ {X Y : Type 0} where
  pub any_mapped : (p : Y → Bool) (f : X → Y) (xs : List X) → list_any p (map f xs) ≡ list_any (λ x. p (f x)) xs
  any_mapped p f [] = refl
  any_mapped p f (x ∷ xs) = ap (λ b. p (f x) || b) (any_mapped p f xs)

  pub any_flat : (p : Y → Bool) (f : X → List Y) (xs : List X) → list_any p (flat_map f xs) ≡ list_any (λ x. list_any p (f x)) xs
  any_flat p f [] = refl
  any_flat p f (x ∷ xs) = list_any-append p (f x) (flat_map f xs) ∙ ap (λ b. list_any p (f x) || b) (any_flat p f xs)

  -- one more step of a loop that adds a list for each element
  pub flat_step : (f : X → List Y) (xs : List X) (i : ℕ) (d : X) → i < length xs → flat_map f (take (i + 1) xs) ≡ flat_map f (take i xs) ++ f (slice_index_or xs i d)
  flat_step f xs i d below =
      let taken : take (i + 1) xs ≡ take i xs ++ slice_index_or xs i d ∷ [] = rw (add-one, take-suc xs i d below) refl in
      rw (taken, flat_map-append f (take i xs) (slice_index_or xs i d ∷ []), append-nil (f (slice_index_or xs i d))) refl
