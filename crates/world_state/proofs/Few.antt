-- What holds of mapped elements; and numbers below a bound of which no two are the same are no more than the bound.
use Rattle.std.proofs.Common.{◌≡◌, ◌≢◌, ◌<◌, ◌≤◌, ◌==◌, not, ℕ, zero, suc, Bool, true, false, List, [], ◌∷◌, All, cond, filter, get_or, length, map, refl, sym, ◌∙◌, ap, subst, ⊎_elim, arith}
use Rattle.std.proofs.lemmas.Bool.{cases_lt, eq-eqb, eqb-true, ne_eqb}
use Rattle.std.proofs.lemmas.List.{get_or-map, length-map}
use Rattle.std.proofs.lemmas.List.Elements.{All-filter, All-head, All-tail, All-weaker, filter_passes}
use Rattle.std.proofs.lemmas.List.Kept.{AllPairs-filter}
use Rattle.std.specs.List.{AllPairs}
use Rattle.ruby_value.proofs.Ordered.{AllPairs-head, AllPairs-tail}

module _ {X Y : Type 0} (f : X → Y) (xs : List X) where
  pub before-map : (P : Y → Type 0) → All P (map f xs) → All (λ (x : X). P (f x)) xs
  before-map P all i d within =
      let same = length-map xs f in subst P (get_or-map f xs i d (f d) within) (all i (f d) (omega (arith, same, within)))

  pub pairs-before-map : (R : Y → Y → Type 0) → AllPairs R (map f xs) → AllPairs (λ (a b : X). R (f a) (f b)) xs
  pairs-before-map R pairs i j d before within =
      let same = length-map xs f in
      let there = pairs i j (f d) before (omega (arith, same, within)) in
      subst (λ (a : Y). R a (f (get_or xs j d))) (get_or-map f xs i d (f d) (omega (arith, before, within)))
      (subst (λ (b : Y). R (get_or (map f xs) i (f d)) b) (get_or-map f xs j d (f d) within) there)

module _ {X : Type 0} (number : X → ℕ) where
  abbrev Apart : X → X → Type 0
  Apart a b = number a ≢ number b

  abbrev others : ℕ → X → Bool
  others n x = not (number x == n)

  all-others : (n : ℕ) (xs : List X) → All (λ (x : X). n ≢ number x) xs → length (filter (others n) xs) ≡ length xs
  all-others n [] apart = refl
  all-others n (x ∷ xs) apart =
      let first = All-head (λ (y : X). n ≢ number y) x xs apart in
      ap (λ (b : Bool). length (cond (not b) (x ∷ filter (others n) xs) (filter (others n) xs))) (ne_eqb (number x) n (λ is. first (sym is)))
      ∙ ap suc (all-others n xs (All-tail (λ (y : X). n ≢ number y) x xs apart))

  one-more : (n : ℕ) (xs : List X) → AllPairs Apart xs → length xs ≤ suc (length (filter (others n) xs))
  one-more n [] apart = omega arith
  one-more n (x ∷ xs) apart = by (number x == n) refl (one-more n xs (AllPairs-tail Apart x xs apart))
    where
      by : (b : Bool) → (number x == n) ≡ b → length xs ≤ suc (length (filter (others n) xs))
          → suc (length xs) ≤ suc (length (cond (not b) (x ∷ filter (others n) xs) (filter (others n) xs)))
      by true is le =
          let same : number x ≡ n = eqb-true (number x) n is in
          let all =
          all-others n xs
          (All-weaker (Apart x) (λ (y : X). n ≢ number y) (λ y differ equal. differ (same ∙ equal)) xs (AllPairs-head Apart x xs apart)) in
          omega (arith, all)
      by false is le = omega (arith, le)

  others-below : (n : ℕ) (xs : List X) → All (λ (x : X). number x < suc n) xs → All (λ (x : X). number x < n) (filter (others n) xs)
  others-below n xs below i d within =
      let y : X = get_or (filter (others n) xs) i d in
      let less : number y < suc n = All-filter (others n) (λ (x : X). number x < suc n) xs below i d within in
      let passes : not (number y == n) ≡ true = filter_passes (others n) xs i d within in
      ⊎_elim
      (λ (under : number y < n). under)
      (λ (above : n ≤ number y). absurd (cc (passes, ap not (eq-eqb (number y) n (omega (arith, less, above))))))
      (cases_lt (number y) n)

  pub few-below : (n : ℕ) (xs : List X) → AllPairs Apart xs → All (λ (x : X). number x < n) xs → length xs ≤ n
  few-below zero [] apart below = omega arith
  few-below zero (x ∷ xs) apart below = let first = All-head (λ (y : X). number y < 0) x xs below in absurd (omega (arith, first))
  few-below (suc n) xs apart below =
      let rest = few-below n (filter (others n) xs) (AllPairs-filter Apart (others n) xs apart) (others-below n xs below) in
      omega (arith, rest, one-more n xs apart)
