-- Going through an ascending list by its least member, which is taken out each time; and whether a number is in a list.
use Rattle.std.proofs.Common.{◌≡◌, ℕ, ◌<◌, ◌≤◌, ◌↔◌, ◌==◌, Bool, true, false, not, nat_eq, nat_lt, Option, None, Some, List, [], ◌∷◌, refl, sym, subst, ap, ◌∙◌, filter, fold, slice_get, length, All, Contains, IsTrue, eq-eqb, eqb-true, ne_eqb, arith}
use Rattle.std.specs.List.{AllPairs, list_any}
use Rattle.std.specs.List.Sorted.{IsStrictlyIncreasing}
use Rattle.std.specs.Cmp.{nat_eq_equiv}
use Rattle.std.proofs.lemmas.Bool.{le-ltb}
use Rattle.std.proofs.lemmas.List.Elements.{All-head, All-tail}
use Rattle.std.proofs.lemmas.Map.Views.{Contains-from_any, list_any-from_Contains}
use Rattle.std.proofs.lemmas.List.Kept.{AllPairs-from_increasing}
use Rattle.ruby_value.proofs.Ordered.{AllPairs-head, AllPairs-tail}
use Rattle.ruby_value.specs.Prelude.{least_from, without_member}

abbrev pub Rise : List ℕ → Type 0
Rise xs = AllPairs (λ (a b : ℕ). a < b) xs

pub rise_from : (xs : List ℕ) → IsStrictlyIncreasing xs → Rise xs
rise_from xs is = AllPairs-from_increasing xs is

from_zero : (xs : List ℕ) → filter (λ o. not (nat_lt o 0)) xs ≡ xs
from_zero [] = refl
from_zero (x ∷ xs) = let here : 0 ≤ x = omega arith in rw (le-ltb x 0 here) (ap (λ (ys : List ℕ). x ∷ ys) (from_zero xs))

least_is_first : (xs : List ℕ) → least_from xs 0 ≡ slice_get xs 0
least_is_first xs = ap (λ (ys : List ℕ). slice_get ys 0) (from_zero xs)

not_same : (m x : ℕ) → m < x → (x == m) ≡ false
not_same m x above = ne_eqb x m (λ is. omega arith)

same : (x : ℕ) → (x == x) ≡ true
same x = eq-eqb x x refl

-- nothing is taken out that isn't there
without_absent : (m : ℕ) (xs : List ℕ) → All (λ x. m < x) xs → without_member xs m ≡ xs
without_absent m [] all = refl
without_absent m (x ∷ xs) all =
    rw (not_same m x (All-head (λ y. m < y) x xs all)) (ap (λ (ys : List ℕ). x ∷ ys) (without_absent m xs (All-tail (λ y. m < y) x xs all)))

-- a list is its least member and the others, which ascend too
pub record TakenOut (xs : List ℕ) (m : ℕ) : Type 0 where
  pub parts : xs ≡ m ∷ without_member xs m
  pub rise : Rise (without_member xs m)

pub taken_out : (xs : List ℕ) (m : ℕ) → Rise xs → least_from xs 0 ≡ Some m → TakenOut xs m
taken_out [] m rise is = absurd (cc is)
taken_out (x ∷ xs) m rise is =
    let first : slice_get (x ∷ xs) 0 ≡ Some m = sym (least_is_first (x ∷ xs)) ∙ is in
    let it : x ≡ m = cc first in
    let absent : without_member xs x ≡ xs = without_absent x xs (AllPairs-head (λ a b. a < b) x xs rise) in
    let rest : without_member (x ∷ xs) x ≡ xs = rw (same x) absent in
    subst (λ z. TakenOut (x ∷ xs) z) it (record {
      parts = ap (λ (ys : List ℕ). x ∷ ys) (sym rest);
      rise = subst Rise (sym rest) (AllPairs-tail (λ a b. a < b) x xs rise);
    })

pub none_left : (xs : List ℕ) → least_from xs 0 ≡ None → xs ≡ []
none_left [] is = refl
none_left (x ∷ xs) is = let first : slice_get (x ∷ xs) 0 ≡ None = sym (least_is_first (x ∷ xs)) ∙ is in absurd (cc first)

-- one step of going through a list
pub fold_step : (f : List ℕ → ℕ → List ℕ) (members xs ys : List ℕ) (m : ℕ) → xs ≡ m ∷ ys → fold f (f members m) ys ≡ fold f members xs
fold_step f members xs ys m is = ap (λ (zs : List ℕ). fold f members zs) (sym is)

pub fold_none : (f : List ℕ → ℕ → List ℕ) (members xs : List ℕ) → xs ≡ [] → members ≡ fold f members xs
fold_none f members xs is = ap (λ (zs : List ℕ). fold f members zs) (sym is)

-- whether a number is in a list
pub is_in : (xs : List ℕ) (m : ℕ) (b : Bool) → (IsTrue b ↔ Contains xs m) → b ≡ list_any (λ x. m == x) xs
is_in xs m true iff = sym (list_any-from_Contains nat_eq_equiv m xs (iff.0 refl))
is_in xs m false iff = by (list_any (λ x. m == x) xs) refl
  where
    by : (any : Bool) → list_any (λ x. m == x) xs ≡ any → false ≡ any
    by false is = refl
    by true is = iff.1 (Contains-from_any {eq = nat_eq} eqb-true m xs is)
