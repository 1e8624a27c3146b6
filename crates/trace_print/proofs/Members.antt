-- Going through a set's controllers from a number on, in increasing order.
use Rattle.std.proofs.Common.{◌≡◌, ℕ, ◌+◌, ◌^◌, ◌<◌, ◌≤◌, ◌&&◌, Bool, true, false, not, nat_lt, cond, None, Some, List, [], ◌∷◌, All, filter, slice_get, refl, subst, ap, ltb-false, ltb-true, arith}
use Rattle.std.specs.List.{AllPairs}
use Rattle.std.specs.List.Sorted.{IsStrictlyIncreasing}
use Rattle.std.proofs.lemmas.Bool.{le-ltb, lt-ltb}
use Rattle.std.proofs.lemmas.List.Elements.{All-head, All-tail}
use Rattle.std.proofs.lemmas.List.Kept.{AllPairs-from_increasing}
use Rattle.ruby_value.proofs.Ordered.{AllPairs-head, AllPairs-tail}
use Rattle.ruby_value.specs.Prelude.{least_from}
use Rattle.trace_print.specs.Prelude.{controllers_in}

abbrev pub Rise : List ℕ → Type 0
Rise xs = AllPairs (λ (a b : ℕ). a < b) xs

pub rise_of : (xs : List ℕ) → IsStrictlyIncreasing xs → Rise xs
rise_of xs is = AllPairs-from_increasing xs is

-- those that aren't below a number
abbrev pub left_from : ℕ → List ℕ → List ℕ
left_from from xs = filter (λ m. not (nat_lt m from) && nat_lt m (2 ^ 32)) xs

pub all_left : (xs : List ℕ) → left_from 0 xs ≡ controllers_in xs
all_left [] = refl
all_left (x ∷ xs) =
    let here : 0 ≤ x = omega arith in
    rw (le-ltb x 0 here) (ap (λ (ys : List ℕ). cond (nat_lt x (2 ^ 32)) (x ∷ ys) ys) (all_left xs))

-- of what is above one of them it is the same whether those up to it are left out
same_left : (from x : ℕ) (xs : List ℕ) → from ≤ x → All (λ y. x < y) xs → left_from from xs ≡ left_from (x + 1) xs
same_left from x [] up all = refl
same_left from x (y ∷ xs) up all =
    let above : x < y = All-head (λ z. x < z) y xs all in
    let one : from ≤ y = omega arith in
    let two : x + 1 ≤ y = omega arith in
    rw (le-ltb y from one, le-ltb y (x + 1) two) (ap (λ (ys : List ℕ). cond (nat_lt y (2 ^ 32)) (y ∷ ys) ys) (same_left from x xs up (All-tail (λ z. x < z) y xs all)))

pub record IsNext (from m : ℕ) (xs : List ℕ) : Type 0 where
  pub after : from ≤ m
  pub left : left_from from xs ≡ m ∷ left_from (m + 1) xs

next_by : (x : ℕ) (xs : List ℕ) (from m : ℕ) → Rise (x ∷ xs) → least_from (x ∷ xs) from ≡ Some m → m < 2 ^ 32 → (least_from xs from ≡ Some m → IsNext from m xs)
    → (t : Bool) → nat_lt x from ≡ t → IsNext from m (x ∷ xs)
next_by x xs from m rise is small more true below =
    let found : least_from xs from ≡ Some m = rw below at is in
    let rest = more found in
    let under : x < from = ltb-true x from below in
    let up : from ≤ m = rest.after in
    let passed : x < m + 1 = omega arith in
    record { after = rest.after; left = rw (below, lt-ltb x (m + 1) passed) rest.left }
next_by x xs from m rise is small more false above =
    let first : slice_get (x ∷ filter (λ o. not (nat_lt o from)) xs) 0 ≡ Some m = rw above at is in
    let same : x ≡ m = cc first in
    let up : from ≤ x = ltb-false x from above in
    let within : x < 2 ^ 32 = omega arith in
    let passed : x < x + 1 = omega arith in
    subst (λ z. IsNext from z (x ∷ xs)) same (record {
      after = up;
      left = rw (above, lt-ltb x (2 ^ 32) within, lt-ltb x (x + 1) passed) (ap (λ (ys : List ℕ). x ∷ ys) (same_left from x xs up (AllPairs-head (λ a b. a < b) x xs rise)));
    })

pub next_left : (xs : List ℕ) (from m : ℕ) → Rise xs → least_from xs from ≡ Some m → m < 2 ^ 32 → IsNext from m xs
next_left [] from m rise is small = absurd (cc is)
next_left (x ∷ xs) from m rise is small =
    next_by x xs from m rise is small (λ found. next_left xs from m (AllPairs-tail (λ a b. a < b) x xs rise) found small) (nat_lt x from) refl

none_by : (x : ℕ) (xs : List ℕ) (from : ℕ) → least_from (x ∷ xs) from ≡ None → (least_from xs from ≡ None → left_from from xs ≡ []) → (t : Bool) → nat_lt x from ≡ t → left_from from (x ∷ xs) ≡ []
none_by x xs from is more true below = let rest : least_from xs from ≡ None = rw below at is in rw below (more rest)
none_by x xs from is more false above = let first : slice_get (x ∷ filter (λ o. not (nat_lt o from)) xs) 0 ≡ None = rw above at is in absurd (cc first)

pub none_left : (xs : List ℕ) (from : ℕ) → least_from xs from ≡ None → left_from from xs ≡ []
none_left [] from is = refl
none_left (x ∷ xs) from is = none_by x xs from is (none_left xs from) (nat_lt x from) refl

past_by : (x : ℕ) (xs : List ℕ) (from : ℕ) → 2 ^ 32 ≤ from → left_from from xs ≡ [] → (t : Bool) → nat_lt x from ≡ t → left_from from (x ∷ xs) ≡ []
past_by x xs from past rest true below = rw below rest
past_by x xs from past rest false above =
    let up : from ≤ x = ltb-false x from above in
    let great : 2 ^ 32 ≤ x = omega arith in
    rw (above, le-ltb x (2 ^ 32) great) rest

pub past_all : (xs : List ℕ) (from : ℕ) → 2 ^ 32 ≤ from → left_from from xs ≡ []
past_all [] from past = refl
past_all (x ∷ xs) from past = past_by x xs from past (past_all xs from past) (nat_lt x from) refl
