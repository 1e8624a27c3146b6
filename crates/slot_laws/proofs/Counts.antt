-- How many items of a list pass a test: of lists that are joined, of a list with an item more, and of one of which some items change.
use Rattle.std.proofs.Common.{◌≡◌, ◌+◌, ℕ, Bool, true, false, cond, not, List, [], ◌∷◌, ◌++◌, map, filter, All, refl, ap, arith}
use Rattle.std.specs.Prelude.{count_by}
use Rattle.std.proofs.lemmas.Bool.{cond_both}
use Rattle.std.proofs.lemmas.List.Elements.{All-head, All-tail}
use Rattle.std.proofs.lemmas.List.Sums.{sum_by-append, sum_by-cons}

module _ {X : Type 0} (t : X → Bool) where
  abbrev pub one : X → ℕ
  one x = cond (t x) 1 0

  pub count-cons : (x : X) (xs : List X) → count_by t (x ∷ xs) ≡ one x + count_by t xs
  count-cons x xs = sum_by-cons one x xs

  pub count-append : (xs ys : List X) → count_by t (xs ++ ys) ≡ count_by t xs + count_by t ys
  count-append xs ys = sum_by-append one xs ys

  parts : (p q : X → Bool) (xs : List X) → All (λ x. q x ≡ not (p x)) xs → count_by t (filter p xs) + count_by t (filter q xs) ≡ count_by t xs
  parts p q [] all = omega arith
  parts p q (x ∷ xs) all =
      let rest = parts p q xs (All-tail (λ y. q y ≡ not (p y)) x xs all) in
      let here = count-cons x xs in
      rw (All-head (λ y. q y ≡ not (p y)) x xs all)
      (elim (p x) as (λ b. count_by t (cond b (x ∷ filter p xs) (filter p xs)) + count_by t (cond (not b) (x ∷ filter q xs) (filter q xs)) ≡ count_by t (x ∷ xs)) [
        | true ↦ let there = count-cons x (filter p xs) in omega arith
        | false ↦ let there = count-cons x (filter q xs) in omega arith
      ])

  -- an item that is put between those that pass one test and the others
  pub count-put : (p q : X → Bool) (m : X) (xs : List X) → All (λ x. q x ≡ not (p x)) xs → count_by t (filter p xs ++ m ∷ filter q xs) ≡ one m + count_by t xs
  count-put p q m xs all =
      let whole = count-append (filter p xs) (m ∷ filter q xs) in
      let middle = count-cons m (filter q xs) in
      let both = parts p q xs all in
      omega arith

  -- a change that the test doesn't see
  pub count-changed : (test : X → Bool) (change : X → X) → ((x : X) → t (change x) ≡ t x) → (xs : List X) → count_by t (map (λ x. cond (test x) (change x) x) xs) ≡ count_by t xs
  count-changed test change same [] = refl
  count-changed test change same (x ∷ xs) =
      let rest = count-changed test change same xs in
      let there = count-cons x xs in
      let here = count-cons (cond (test x) (change x) x) (map (λ y. cond (test y) (change y) y) xs) in
      let equal : one (cond (test x) (change x) x) ≡ one x = ap (λ (b : Bool). cond b 1 0) (cond_both (test x) (change x) x (λ y. t y ≡ t x) (λ _. same x) (λ _. refl)) in
      omega arith

  pub count-same : (u : X → Bool) (xs : List X) → All (λ x. t x ≡ u x) xs → count_by t xs ≡ count_by u xs
  count-same u [] all = refl
  count-same u (x ∷ xs) all =
      let rest = count-same u xs (All-tail (λ y. t y ≡ u y) x xs all) in
      let here = count-cons x xs in
      let there = sum_by-cons (λ y. cond (u y) 1 0) x xs in
      let equal : one x ≡ cond (u x) 1 0 = ap (λ (b : Bool). cond b 1 0) (All-head (λ y. t y ≡ u y) x xs all) in
      omega arith

  pub count-none : (xs : List X) → All (λ x. t x ≡ false) xs → count_by t xs ≡ 0
  count-none [] all = refl
  count-none (x ∷ xs) all =
      let rest = count-none xs (All-tail (λ y. t y ≡ false) x xs all) in
      let here = count-cons x xs in
      let none : one x ≡ 0 = ap (λ (b : Bool). cond b 1 0) (All-head (λ y. t y ≡ false) x xs all) in
      omega arith

module _ {X Y : Type 0} (f : X → Y) (t : Y → Bool) where
  pub count-map : (xs : List X) → count_by t (map f xs) ≡ count_by (λ x. t (f x)) xs
  count-map [] = refl
  count-map (x ∷ xs) =
      let rest = count-map xs in
      let here = count-cons t (f x) (map f xs) in
      let there = count-cons (λ y. t (f y)) x xs in
      omega arith
