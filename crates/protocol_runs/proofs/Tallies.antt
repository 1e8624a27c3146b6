-- How many elements of a list pass a test, counted from the right.
use Rattle.std.proofs.Common.{◌≡◌, ◌≤◌, ◌+◌, ℕ, zero, suc, Bool, true, Some, List, [], ◌∷◌, ◌++◌, map, length, refl, sym, ◌∙◌, ap, cond, zero-add, slice_get, slice_set, arith}
use Rattle.std.specs.List.{flat_map}
use Rattle.std.specs.Prelude.{count_by}
use Rattle.std.proofs.lemmas.List.Sums.{sum_by-cons}
use Rattle.std.proofs.lemmas.List.Concat.{flat_map-append}

abbrev pub one : Bool → ℕ
one b = cond b 1 0

abbrev pub tally : {X : Type 0} → (X → Bool) → List X → ℕ
tally f [] = 0
tally f (x ∷ xs) = one (f x) + tally f xs

pub counted : {X : Type 0} (f : X → Bool) (xs : List X) → count_by f xs ≡ tally f xs
counted f [] = refl
counted f (x ∷ xs) = sum_by-cons (λ y. one (f y)) x xs ∙ ap (λ n. one (f x) + n) (counted f xs)

pub tally-append : {X : Type 0} (f : X → Bool) (xs ys : List X) → tally f (xs ++ ys) ≡ tally f xs + tally f ys
tally-append f [] ys = sym (zero-add (tally f ys))
tally-append f (x ∷ xs) ys = omega (arith, tally-append f xs ys)

pub tally-map : {X Y : Type 0} (f : Y → Bool) (g : X → Y) (xs : List X) → tally f (map g xs) ≡ tally (λ x. f (g x)) xs
tally-map f g [] = refl
tally-map f g (x ∷ xs) = ap (λ n. one (f (g x)) + n) (tally-map f g xs)

pub tally-true : {X : Type 0} (xs : List X) → tally (λ (x : X). true) xs ≡ length xs
tally-true [] = refl
tally-true (x ∷ xs) = omega (arith, tally-true xs)

module _ {X Y : Type 0} (f : Y → Bool) (g : X → List Y) where
  -- a list of lists where one is changed
  pub tally-set : (xs : List X) (c : ℕ) (x y : X) → slice_get xs c ≡ Some x
      → tally f (flat_map g (slice_set xs c y)) + tally f (g x) ≡ tally f (flat_map g xs) + tally f (g y)
  tally-set [] c x y there = absurd (cc there)
  tally-set (z ∷ xs) zero x y there =
      let z_is : z ≡ x = cc there in
      let same : tally f (g z) ≡ tally f (g x) = ap (λ v. tally f (g v)) z_is in
      omega (arith, same, tally-append f (g y) (flat_map g xs), tally-append f (g z) (flat_map g xs))
  tally-set (z ∷ xs) (suc c) x y there =
      omega (arith, tally-set xs c x y there, tally-append f (g z) (flat_map g (slice_set xs c y)), tally-append f (g z) (flat_map g xs))

  pub tally-within : (xs : List X) (c : ℕ) (x : X) → slice_get xs c ≡ Some x → tally f (g x) ≤ tally f (flat_map g xs)
  tally-within [] c x there = absurd (cc there)
  tally-within (z ∷ xs) zero x there =
      let z_is : z ≡ x = cc there in
      let same : tally f (g z) ≡ tally f (g x) = ap (λ v. tally f (g v)) z_is in
      omega (arith, same, tally-append f (g z) (flat_map g xs))
  tally-within (z ∷ xs) (suc c) x there =
      omega (arith, tally-within xs c x there, tally-append f (g z) (flat_map g xs))

  -- the elements of some lists, and of more
  pub tally-more : (xs ys : List X) → tally f (flat_map g (xs ++ ys)) ≡ tally f (flat_map g xs) + tally f (flat_map g ys)
  tally-more xs ys = ap (λ v. tally f v) (flat_map-append g xs ys) ∙ tally-append f (flat_map g xs) (flat_map g ys)

-- lists that stay the same where what they come from changes
pub flat_map-same : {X Y : Type 0} (g : X → List Y) (h : X → X) → ((x : X) → g (h x) ≡ g x) → (xs : List X) → flat_map g (map h xs) ≡ flat_map g xs
flat_map-same g h same [] = refl
flat_map-same g h same (x ∷ xs) = ap (λ v. v ++ flat_map g (map h xs)) (same x) ∙ ap (λ v. g x ++ v) (flat_map-same g h same xs)
