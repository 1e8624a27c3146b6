-- A table of what arrives at places, in which one more way is put at its place.
use Rattle.std.proofs.Common.{◌≡◌, ℕ, zero, suc, ◌+◌, ◌<◌, ◌≤◌, Bool, true, false, ◌==◌, Some, List, [], ◌∷◌, length, slice_get, slice_set, refl, ap, subst, ◌∙◌, arith, inl, inr, if◌then◌else◌, eq-eqb}
use Rattle.std.proofs.lemmas.Bool.{cases_eq}
use Rattle.std.proofs.lemmas.Bool.Decides.{nat_tests}
use Rattle.action_code.specs.declared.arrivals.Arrival.{Arrival}
use Rattle.action_code.specs.declared.shape.Shape.{Shape}
use Rattle.action_code.specs.Table.{Holds}
use Rattle.action_code.specs.Ways.{Way, arrive, arrived, no_arrival}

get_set_same : {A : Type 0} (xs : List A) (i : ℕ) (x : A) → i < length xs → slice_get (slice_set xs i x) i ≡ Some x
get_set_same [] i x h = absurd (omega (arith, h))
get_set_same (y ∷ xs) zero x h = refl
get_set_same (y ∷ xs) (suc i) x h = get_set_same xs i x (omega (arith, h))

get_set_other : {A : Type 0} (xs : List A) (i j : ℕ) (x : A) → (i ≡ j → ⊥) → slice_get (slice_set xs i x) j ≡ slice_get xs j
get_set_other [] i j x h = refl
get_set_other (y ∷ xs) zero zero x h = absurd (h refl)
get_set_other (y ∷ xs) zero (suc j) x h = refl
get_set_other (y ∷ xs) (suc i) zero x h = refl
get_set_other (y ∷ xs) (suc i) (suc j) x h = get_set_other xs i j x (λ e. h (ap suc e))

set_length : {A : Type 0} (xs : List A) (i : ℕ) (x : A) → length (slice_set xs i x) ≡ length xs
set_length [] i x = refl
set_length (y ∷ xs) zero x = refl
set_length (y ∷ xs) (suc i) x = ap suc (set_length xs i x)

is_other : (a b : ℕ) → (a ≡ b → ⊥) → (a == b) ≡ false
is_other a b h = grind (arith, nat_tests)

either_way : {A : Type 0} (b : Bool) (x y : A) → b ≡ true → x ≡ (if b then x else y)
either_way true x y h = refl
either_way false x y h = absurd (cc)

or_else : {A : Type 0} (b : Bool) (x y : A) → b ≡ false → y ≡ (if b then x else y)
or_else true x y h = absurd (cc)
or_else false x y h = refl

same_some : {A : Type 0} (x y : A) → Some x ≡ Some y → x ≡ y
same_some x y h = cc

abbrev pub table_after : List Arrival → ℕ → Arrival → Shape → List Arrival
table_after table to before s = slice_set (slice_set table to no_arrival) to (arrive before s)

here : (table : List Arrival) (to : ℕ) (before : Arrival) (s : Shape) (ways : List Way) (from : ℕ)
    → to < length table → Some before ≡ slice_get table to → Holds table ways from → from ≤ to
    → slice_get (table_after table to before s) to ≡ Some (arrived to (record { to = to; shape = s } ∷ ways))
here table to before s ways from lt was holds le =
    let is : before ≡ arrived to ways = same_some before (arrived to ways) (was ∙ holds to le lt) in
    get_set_same (slice_set table to no_arrival) to (arrive before s) (omega (arith, lt, set_length table to no_arrival))
    ∙ ap (λ (a : Arrival). Some (arrive a s)) is
    ∙ ap Some (either_way (to == to) (arrive (arrived to ways) s) (arrived to ways) (eq-eqb to to refl))

there : (table : List Arrival) (to place : ℕ) (before : Arrival) (s : Shape) (ways : List Way) (from : ℕ)
    → (to ≡ place → ⊥) → Holds table ways from → from ≤ place → place < length table
    → slice_get (table_after table to before s) place ≡ Some (arrived place (record { to = to; shape = s } ∷ ways))
there table to place before s ways from other holds le lt =
    get_set_other (slice_set table to no_arrival) to place (arrive before s) other
    ∙ get_set_other table to place no_arrival other
    ∙ holds place le lt
    ∙ ap Some (or_else (to == place) (arrive (arrived place ways) s) (arrived place ways) (is_other to place other))

pub holds_arrive : (table : List Arrival) (to : ℕ) (before : Arrival) (s : Shape)
    → to < length table → Some before ≡ slice_get table to → (ways : List Way) (from : ℕ) → Holds table ways from
    → Holds (table_after table to before s) (record { to = to; shape = s } ∷ ways) from
holds_arrive table to before s lt was ways from holds place le within =
    let long : length (table_after table to before s) ≡ length table =
    set_length (slice_set table to no_arrival) to (arrive before s) ∙ set_length table to no_arrival in
    elim (cases_eq to place) [
      | inl e ↦ let P : ℕ → Type 0 = λ k. slice_get (table_after table to before s) k ≡ Some (arrived k (record { to = to; shape = s } ∷ ways)) in
          subst P e (here table to before s ways from lt was holds (omega (arith, e, le)))
      | inr other ↦ there table to place before s ways from other holds le (omega (arith, within, long))
    ]

pub holds_past : (table : List Arrival) (place : ℕ) (x : Arrival) (ways : List Way) → Holds table ways place
    → Holds (slice_set table place x) ways (place + 1)
holds_past table place x ways holds later le lt =
    get_set_other table place later x (λ e. absurd (omega (arith, e, le))) ∙ holds later (omega (arith, le)) (omega (arith, lt, set_length table place x))
