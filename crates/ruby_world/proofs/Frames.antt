-- How many places pass a test, where one of them changes.
use Rattle.std.proofs.Common.{◌≡◌, ◌+◌, ℕ, zero, suc, Bool, true, false, List, [], ◌∷◌, Some, map, cond, refl, sym, ◌∙◌, ap, slice_get, slice_set, arith}
use Rattle.std.specs.Prelude.{count_by}
use Rattle.std.proofs.lemmas.List.{map-set}
use Rattle.std.proofs.lemmas.List.Sums.{sum_by-cons}

pub count-cons : {X : Type 0} (f : X → Bool) (x : X) (xs : List X) → count_by f (x ∷ xs) ≡ cond (f x) 1 0 + count_by f xs
count-cons f = sum_by-cons (λ y. cond (f y) 1 0)

-- a list in which an element is what it was
set-same : {X : Type 0} (xs : List X) (c : ℕ) (x : X) → slice_get xs c ≡ Some x → slice_set xs c x ≡ xs
set-same [] c x there = refl
set-same (y ∷ xs) zero x there = let same : y ≡ x = cc there in ap (λ z. z ∷ xs) (sym same)
set-same (y ∷ xs) (suc c) x there = ap (λ zs. y ∷ zs) (set-same xs c x there)

get-mapped : {X Y : Type 0} (f : X → Y) (xs : List X) (c : ℕ) (x : X) → slice_get xs c ≡ Some x → slice_get (map f xs) c ≡ Some (f x)
get-mapped f [] c x there = absurd (cc there)
get-mapped f (y ∷ xs) zero x there = let same : y ≡ x = cc there in ap (λ z. Some (f z)) same
get-mapped f (y ∷ xs) (suc c) x there = get-mapped f xs c x there

-- an element that changes keeps what is read off it
pub set-frame : {X Y : Type 0} (f : X → Y) (xs : List X) (c : ℕ) (x y : X) → slice_get xs c ≡ Some x → f y ≡ f x → map f (slice_set xs c y) ≡ map f xs
set-frame f xs c x y there same =
    map-set f xs c y ∙ ap (λ z. slice_set (map f xs) c z) same ∙ set-same (map f xs) c (f x) (get-mapped f xs c x there)

count-mapped : {X : Type 0} (f : X → Bool) (xs : List X) → count_by (λ (b : Bool). b) (map f xs) ≡ count_by f xs
count-mapped f [] = refl
count-mapped f (x ∷ xs) =
    count-cons (λ (b : Bool). b) (f x) (map f xs) ∙ ap (λ (n : ℕ). cond (f x) 1 0 + n) (count-mapped f xs) ∙ sym (count-cons f x xs)

-- lists on which a test answers the same
pub count-same : {X : Type 0} (f : X → Bool) (xs ys : List X) → map f xs ≡ map f ys → count_by f xs ≡ count_by f ys
count-same f xs ys same = sym (count-mapped f xs) ∙ ap (λ (bs : List Bool). count_by (λ (b : Bool). b) bs) same ∙ count-mapped f ys

-- one that passed does so no more
pub count-fewer : {X : Type 0} (f : X → Bool) (xs : List X) (c : ℕ) (x y : X) → slice_get xs c ≡ Some x → f x ≡ true → f y ≡ false
    → count_by f (slice_set xs c y) + 1 ≡ count_by f xs
count-fewer f [] c x y there passes fails = absurd (cc there)
count-fewer f (z ∷ xs) zero x y there passes fails =
    let same : z ≡ x = cc there in
    let left : count_by f (y ∷ xs) ≡ 0 + count_by f xs = count-cons f y xs ∙ ap (λ b. cond b 1 0 + count_by f xs) fails in
    let right : count_by f (z ∷ xs) ≡ 1 + count_by f xs = count-cons f z xs ∙ ap (λ b. cond b 1 0 + count_by f xs) (ap f same ∙ passes) in
    omega (arith, left, right)
count-fewer f (z ∷ xs) (suc c) x y there passes fails =
    let rest = count-fewer f xs c x y there passes fails in
    let left : count_by f (z ∷ slice_set xs c y) ≡ cond (f z) 1 0 + count_by f (slice_set xs c y) = count-cons f z (slice_set xs c y) in
    let right : count_by f (z ∷ xs) ≡ cond (f z) 1 0 + count_by f xs = count-cons f z xs in
    omega (arith, left, right, rest)
