-- Lists in which each element stands in a relation to each later one, after an insertion or a write at a place.
use Rattle.std.proofs.Common.{◌≡◌, ℕ, zero, suc, ◌<◌, List, [], ◌∷◌, length, get_or, map, set, take, drop, subst, arith}
use Rattle.std.proofs.lemmas.List.Elements.{All-append, All-cons, All-drop, All-get_or, All-head, All-map, All-set, All-tail, All-take, All-weaker}
use Rattle.std.proofs.lemmas.List.Kept.{AllPairs-cons}
use Rattle.std.specs.List.{All, AllPairs, insert}
use Rattle.ruby_value.proofs.Ordered.{AllPairs-head, AllPairs-nil, AllPairs-tail}

pub All-insert-at : {X : Type 0} (P : X → Type 0) (xs : List X) (at : ℕ) (y : X) → All P xs → P y → All P (insert xs at y)
All-insert-at P xs at y all here = All-append P (take at xs) (y ∷ drop at xs) (All-take P at xs all) (All-cons P y (drop at xs) here (All-drop P at xs all))

module _ {X : Type 0} (R : X → X → Type 0) where
  pub AllPairs-insert-at : (xs : List X) (at : ℕ) (y : X) → AllPairs R xs → All (λ a. R a y) (take at xs) → All (R y) (drop at xs) → AllPairs R (insert xs at y)
  AllPairs-insert-at [] zero y pairs before after = AllPairs-cons R y [] after pairs
  AllPairs-insert-at [] (suc at) y pairs before after = AllPairs-cons R y [] after pairs
  AllPairs-insert-at (x ∷ xs) zero y pairs before after = AllPairs-cons R y (x ∷ xs) after pairs
  AllPairs-insert-at (x ∷ xs) (suc at) y pairs before after =
      AllPairs-cons R x (insert xs at y)
      (All-insert-at (R x) xs at y (AllPairs-head R x xs pairs) (All-head (λ a. R a y) x (take at xs) before))
      (AllPairs-insert-at xs at y (AllPairs-tail R x xs pairs) (All-tail (λ a. R a y) x (take at xs) before) after)

  pub AllPairs-set : (xs : List X) (at : ℕ) (x y : X) → at < length xs → get_or xs at x ≡ x → ((a : X) → R a x → R a y) → ((b : X) → R x b → R y b) → AllPairs R xs → AllPairs R (set xs at y)
  AllPairs-set [] at x y within is to from pairs = absurd (omega arith)
  AllPairs-set (z ∷ xs) zero x y within is to from pairs =
      AllPairs-cons R y xs (All-weaker (R x) (R y) from xs (subst (λ o. All (R o) xs) is (AllPairs-head R z xs pairs))) (AllPairs-tail R z xs pairs)
  AllPairs-set (z ∷ xs) (suc at) x y within is to from pairs =
      let rest : All (R z) xs = AllPairs-head R z xs pairs in
      AllPairs-cons R z (set xs at y)
      (All-set (R z) xs at y (to z (subst (R z) is (All-get_or (R z) xs at x (omega arith) rest))) rest)
      (AllPairs-set xs at x y (omega arith) is to from (AllPairs-tail R z xs pairs))

pub AllPairs-image : {X Y : Type 0} (R : Y → Y → Type 0) (f : X → Y) (xs : List X) → AllPairs (λ a b. R (f a) (f b)) xs → AllPairs R (map f xs)
AllPairs-image R f [] pairs = AllPairs-nil R
AllPairs-image R f (x ∷ xs) pairs =
    AllPairs-cons R (f x) (map f xs)
    (All-map (R (f x)) f xs (AllPairs-head (λ a b. R (f a) (f b)) x xs pairs))
    (AllPairs-image R f xs (AllPairs-tail (λ a b. R (f a) (f b)) x xs pairs))
