-- What is in a set of kinds, a joined one, and one that is part of another or apart from it.
use Rattle.std.proofs.Common.{◌≡◌, ℕ, ◌==◌, Bool, true, false, not, cond, List, [], ◌∷◌, ◌++◌, refl, subst, ◌⊎◌, inl, inr}
use Rattle.std.proofs.lemmas.Bool.{or_cases, or_left, or_right, and_parts, eqb-true, both_ways, not-true, false≢true}
use Rattle.slicc_ast.specs.Prelude.{has, is_subset, are_disjoint}

pub in_left : (xs ys : List ℕ) (kind : ℕ) → has xs kind ≡ true → has (xs ++ ys) kind ≡ true
in_left [] ys kind is = absurd (false≢true is)
in_left (x ∷ xs) ys kind is =
    elim (or_cases (x == kind) (has xs kind) is) [
      | inl here ↦ or_left (x == kind) (has (xs ++ ys) kind) here
      | inr later ↦ or_right (x == kind) (has (xs ++ ys) kind) (in_left xs ys kind later)
    ]

pub in_right : (xs ys : List ℕ) (kind : ℕ) → has ys kind ≡ true → has (xs ++ ys) kind ≡ true
in_right [] ys kind is = is
in_right (x ∷ xs) ys kind is = or_right (x == kind) (has (xs ++ ys) kind) (in_right xs ys kind is)

pub in_either : (xs ys : List ℕ) (kind : ℕ) → has (xs ++ ys) kind ≡ true → (has xs kind ≡ true) ⊎ (has ys kind ≡ true)
in_either [] ys kind is = inr is
in_either (x ∷ xs) ys kind is =
    elim (or_cases (x == kind) (has (xs ++ ys) kind) is) [
      | inl here ↦ inl (or_left (x == kind) (has xs kind) here)
      | inr later ↦ elim (in_either xs ys kind later) [
        | inl left ↦ inl (or_right (x == kind) (has xs kind) left)
        | inr right ↦ inr right
      ]
    ]

pub of_subset : (xs ys : List ℕ) (kind : ℕ) → is_subset xs ys ≡ true → has xs kind ≡ true → has ys kind ≡ true
of_subset [] ys kind sub is = absurd (false≢true is)
of_subset (x ∷ xs) ys kind sub is =
    let parts = and_parts (has ys x) (is_subset xs ys) sub in
    elim (or_cases (x == kind) (has xs kind) is) [
      | inl here ↦ subst (λ k. has ys k ≡ true) (eqb-true x kind here) parts.0
      | inr later ↦ of_subset xs ys kind parts.1 later
    ]

pub of_disjoint : (xs ys : List ℕ) (kind : ℕ) → are_disjoint xs ys ≡ true → has xs kind ≡ true → has ys kind ≡ true → ⊥
of_disjoint [] ys kind apart is also = false≢true is
of_disjoint (x ∷ xs) ys kind apart is also =
    let parts = and_parts (not (has ys x)) (are_disjoint xs ys) apart in
    elim (or_cases (x == kind) (has xs kind) is) [
      | inl here ↦ both_ways (has ys kind) (subst (λ k. has ys k ≡ false) (eqb-true x kind here) (not-true (has ys x) parts.0)) also
      | inr later ↦ of_disjoint xs ys kind parts.1 later also
    ]

-- what is in a set where a test holds
pub in_cond : (b : Bool) (xs : List ℕ) (kind : ℕ) → b ≡ true → has xs kind ≡ true → has (cond b xs []) kind ≡ true
in_cond true xs kind holds is = is
in_cond false xs kind holds is = absurd (false≢true holds)

pub from_cond : (b : Bool) (xs : List ℕ) (kind : ℕ) → has (cond b xs []) kind ≡ true → (b ≡ true) × (has xs kind ≡ true)
from_cond true xs kind is = (refl, is)
from_cond false xs kind is = absurd (false≢true is)
