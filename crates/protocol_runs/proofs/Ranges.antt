-- Ranges that follow on one another: each number below the free one is in one of them, and in no other.
use Rattle.std.proofs.Common.{◌≡◌, ◌<◌, ◌≤◌, ◌+◌, ◌↔◌, ℕ, zero, suc, true, List, [], ◌∷◌, Option, None, Some, IsSome, IsSomeAnd, ⊎_elim, length, refl, sym, ap, subst, ◌∙◌, arith, nat_le, nat_lt, get_or, slice_get}
use Rattle.std.proofs.lemmas.Bool.{and_from, and_parts, cases_lt, cond-true, le-leb, leb-true, lt-ltb, ltb-true}
use Rattle.std.proofs.lemmas.List.Quantifiers.{position-Some}
use Rattle.std.proofs.lemmas.List.Sums.{fails_before_first}
use Rattle.std.proofs.lemmas.Option.{get_or_from_slice_get, slice_get-get_or, slice_get_within}
use Rattle.std.specs.List.{position_or_len}
use Rattle.ctl_face.specs.Prelude.{AreNumbered, IsOfMachine}
use Rattle.protocol_runs.specs.Prelude.{is_in_range, machine_of}

abbrev IsIn : ℕ → ℕ × ℕ → Type 0
IsIn c r = (r.0 ≤ c) × (c < r.0 + r.1)

in-range : (c : ℕ) (r : ℕ × ℕ) → IsIn c r → is_in_range c r ≡ true
in-range c r is = and_from (nat_le r.0 c) (nat_lt c (r.0 + r.1)) (le-leb r.0 c is.0) (lt-ltb c (r.0 + r.1) is.1)

range-says : (c : ℕ) (r : ℕ × ℕ) → is_in_range c r ≡ true → IsIn c r
range-says c r is =
    let parts = and_parts (nat_le r.0 c) (nat_lt c (r.0 + r.1)) is in
    (leb-true r.0 c parts.0, ltb-true c (r.0 + r.1) parts.1)

-- the range at a place
pub found-range : (ranges : List (ℕ × ℕ)) (k c : ℕ) → IsOfMachine ranges k c → (r : ℕ × ℕ) × (slice_get ranges k ≡ Some r) × IsIn c r
found-range ranges k c is = at (slice_get ranges k) refl is
  where
    at : (o : Option (ℕ × ℕ)) → slice_get ranges k ≡ o → IsSomeAnd o (IsIn c) → (r : ℕ × ℕ) × (slice_get ranges k ≡ Some r) × IsIn c r
    at None there none = absurd none
    at (Some r) there here = (r, there, here)

of-found : (ranges : List (ℕ × ℕ)) (k c : ℕ) (r : ℕ × ℕ) → slice_get ranges k ≡ Some r → IsIn c r → IsOfMachine ranges k c
of-found ranges k c r there is = subst (λ (o : Option (ℕ × ℕ)). IsSomeAnd o (IsIn c)) (sym there) is

pub not-below : (first free : ℕ) (ranges : List (ℕ × ℕ)) (k c : ℕ) → AreNumbered first free ranges → IsOfMachine ranges k c → first ≤ c
not-below first free [] k c is here = absurd here
not-below first free (r ∷ ranges) zero c is here = let same = is.0 in omega (arith, here.0)
not-below first free (r ∷ ranges) (suc k) c is here = let rest = not-below (first + r.1) free ranges k c is.2 here in omega arith

pub first-free : (first free : ℕ) (ranges : List (ℕ × ℕ)) → AreNumbered first free ranges → first ≤ free
first-free first free [] is = omega (arith, is)
first-free first free (r ∷ ranges) is = let rest = first-free (first + r.1) free ranges is.2 in omega arith

pub below-free : (first free : ℕ) (ranges : List (ℕ × ℕ)) (k c : ℕ) → AreNumbered first free ranges → IsOfMachine ranges k c → c < free
below-free first free [] k c is here = absurd here
below-free first free (r ∷ ranges) zero c is here = let rest = first-free (first + r.1) free ranges is.2 in let same = is.0 in omega (arith, here.1)
below-free first free (r ∷ ranges) (suc k) c is here = below-free (first + r.1) free ranges k c is.2 here

pub one-range : (first free : ℕ) (ranges : List (ℕ × ℕ)) (j k c : ℕ) → AreNumbered first free ranges → IsOfMachine ranges j c → IsOfMachine ranges k c → j ≡ k
one-range first free [] j k c is one other = absurd one
one-range first free (r ∷ ranges) zero zero c is one other = refl
one-range first free (r ∷ ranges) zero (suc k) c is one other =
    let above = not-below (first + r.1) free ranges k c is.2 other in
    let same = is.0 in
    absurd (omega (arith, above, one.1))
one-range first free (r ∷ ranges) (suc j) zero c is one other =
    let above = not-below (first + r.1) free ranges j c is.2 one in
    let same = is.0 in
    absurd (omega (arith, above, other.1))
one-range first free (r ∷ ranges) (suc j) (suc k) c is one other = ap suc (one-range (first + r.1) free ranges j k c is.2 one other)

pub some-range : (first free : ℕ) (ranges : List (ℕ × ℕ)) (c : ℕ) → AreNumbered first free ranges → first ≤ c → c < free → (k : ℕ) × IsOfMachine ranges k c
some-range first free [] c is above below = absurd (omega (arith, is))
some-range first free (r ∷ ranges) c is above below =
    ⊎_elim
    (λ here. (0, ((let same = is.0 in omega arith), (let same = is.0 in omega arith))))
    (λ later. let rest = some-range (first + r.1) free ranges c is.2 later below in (suc rest.0, rest.1))
    (cases_lt c (first + r.1))

-- the machine that is found is one whose range has the controller
pub machine-says : (ranges : List (ℕ × ℕ)) (c k : ℕ) → machine_of ranges c ≡ Some k → IsOfMachine ranges k c
machine-says ranges c k is =
    let found = position-Some (is_in_range c) ranges k (0, 0) is in
    of-found ranges k c (get_or ranges k (0, 0)) (slice_get-get_or ranges k (0, 0) found.0) (range-says c (get_or ranges k (0, 0)) found.1)

pub machine-is : (first free : ℕ) (ranges : List (ℕ × ℕ)) (c k : ℕ) → AreNumbered first free ranges → IsOfMachine ranges k c → machine_of ranges c ≡ Some k
machine-is first free ranges c k is here =
    let (r, there, within) = found-range ranges k c here in
    let i : ℕ = position_or_len (is_in_range c) ranges in
    let below : k < length ranges = slice_get_within ranges k r there in
    let passes : is_in_range c (get_or ranges k (0, 0)) ≡ true = ap (is_in_range c) (get_or_from_slice_get ranges k r (0, 0) there) ∙ in-range c r within in
    ⊎_elim
    (λ (before : k < i). absurd (cc (fails_before_first (is_in_range c) ranges k (0, 0) before, passes)))
    (λ (not : i ≤ k).
    let inside : i < length ranges = omega arith in
    let found : machine_of ranges c ≡ Some i = cond-true (nat_lt i (length ranges)) (Some i) None (lt-ltb i (length ranges) inside) in
    found ∙ ap (λ (n : ℕ). Some n) (one-range first free ranges i k c is (machine-says ranges c i found) here))
    (cases_lt k i)

pub machine-found : (total : ℕ) (ranges : List (ℕ × ℕ)) (k c : ℕ) → AreNumbered 0 total ranges → (machine_of ranges c ≡ Some k) ↔ IsOfMachine ranges k c
machine-found total ranges k c is = (machine-says ranges c k, machine-is 0 total ranges c k is)

pub machine-there : (total : ℕ) (ranges : List (ℕ × ℕ)) (c : ℕ) → AreNumbered 0 total ranges → IsSome (machine_of ranges c) ↔ (c < total)
machine-there total ranges c is = (λ some. says (machine_of ranges c) refl some, λ below. there (some-range 0 total ranges c is (omega arith) below))
  where
    says : (o : Option ℕ) → machine_of ranges c ≡ o → IsSome o → c < total
    says None found none = absurd (cc none)
    says (Some k) found some = below-free 0 total ranges k c is (machine-says ranges c k found)

    there : (k : ℕ) × IsOfMachine ranges k c → IsSome (machine_of ranges c)
    there (k, here) = subst (λ (o : Option ℕ). IsSome o) (sym (machine-is 0 total ranges c k is here)) refl
