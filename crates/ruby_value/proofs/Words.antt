-- The numbers that a word's bits stand for, after a bit is set or cleared; and such a list before one of greater numbers.
use Rattle.std.proofs.Common.{◌≡◌, ◌≢◌, ℕ, zero, suc, ◌+◌, ◌-◌, ◌/◌, ◌%◌, ◌^◌, ◌<◌, ◌≤◌, Bool, true, false, cond, not, ◌&&◌, eqb, ltb, List, [], ◌∷◌, ◌++◌, length, slice_get, All, Contains, Some, refl, sym, ap, ◌∙◌, subst, inl, inr, ⊎_elim, arith, filter, count_ones, nat_eq, IsTrue, ◌↔◌, Result, Ok, Err, OnOk, OnErr}
use Rattle.ruby_base.specs.declared.memory.NoMemory.{NoMemory}
use Rattle.std.specs.Int.{bit_at, w64, trailing_zeros}
use Rattle.std.specs.Cmp.Lexicographic.{pointwise}
use Rattle.std.specs.List.Sorted.{IsStrictlyIncreasing}
use lib.Count.{ones_step, ones-le}
use Rattle.std.proofs.lemmas.Bool.{eqb-true, eqb-false, eq-eqb, ne_eqb, lt-ltb, le-ltb, cond_both, cases_eq, cases_lt, and_parts, and_from}
use Rattle.std.proofs.lemmas.List.{append-nil, length-append}
use Rattle.std.proofs.lemmas.List.Elements.{All-nil, All-cons, All-head, All-tail, All-weaker, All-contains, Contains-append_left, Contains-append_right, Contains-append_cases, filter-append, All-filter}
use Rattle.std.proofs.lemmas.List.Kept.{AllPairs-cons, AllPairs-from_increasing}
use Rattle.std.specs.List.{AllPairs}
use Rattle.std.proofs.lemmas.Nat.{shr-shr, shr_below, shr_le}
use Rattle.std.proofs.lemmas.Nat.Bits.{bit_at-trailing_zeros, bit_at-zero, bit_at-lt, same_from_bits_below, bit_at_above}
use Rattle.ruby_value.specs.Prelude.{bits_from, bits_of, least_from, with_member, without_member}
use Rattle.ruby_value.proofs.Ordered.{AllPairs-append, AllPairs-nil, increasing_from_AllPairs, All-insert}

module _ {X : Type 0} (test : X → Bool) where
  pub filter_all : (xs : List X) → All (λ x. test x ≡ true) xs → filter test xs ≡ xs
  filter_all [] all = refl
  filter_all (x ∷ xs) all = rw (All-head (λ y. test y ≡ true) x xs all) (ap (λ z. x ∷ z) (filter_all xs (All-tail (λ y. test y ≡ true) x xs all)))

  pub filter_none : (xs : List X) → All (λ x. test x ≡ false) xs → filter test xs ≡ []
  filter_none [] all = refl
  filter_none (x ∷ xs) all = rw (All-head (λ y. test y ≡ false) x xs all) (filter_none xs (All-tail (λ y. test y ≡ false) x xs all))

-- words with the same bits in a range
same_bits : (u w at n : ℕ) → ((k : ℕ) → at ≤ k → k < at + n → bit_at u k ≡ bit_at w k) → bits_from u at n ≡ bits_from w at n
same_bits u w at zero same = refl
same_bits u w at (suc n) same =
    let here : bit_at u at ≡ bit_at w at = same at (omega arith) (omega arith) in
    let rest : bits_from u (suc at) n ≡ bits_from w (suc at) n = same_bits u w (suc at) n (λ k low high. same k (omega arith) (omega arith)) in
    ap (λ (b : ℕ). cond (eqb b 1) (at ∷ bits_from u (suc at) n) (bits_from u (suc at) n)) here
    ∙ ap (λ (xs : List ℕ). cond (eqb (bit_at w at) 1) (at ∷ xs) xs) rest

bits_within : (w at n : ℕ) → All (λ k. (at ≤ k) × (k < at + n)) (bits_from w at n)
bits_within w at zero = All-nil (λ k. (at ≤ k) × (k < at + zero))
bits_within w at (suc n) =
    let P : ℕ → Type 0 = λ k. (at ≤ k) × (k < at + suc n) in
    let rest : All P (bits_from w (suc at) n) =
    All-weaker (λ k. (suc at ≤ k) × (k < suc at + n)) P (λ k b. (omega arith, omega arith)) (bits_from w (suc at) n) (bits_within w (suc at) n) in
    cond_both (eqb (bit_at w at) 1) (at ∷ bits_from w (suc at) n) (bits_from w (suc at) n) (All P) (λ _. All-cons P at (bits_from w (suc at) n) (omega arith, omega arith) rest) (λ _. rest)

bits_set : (w at n : ℕ) → All (λ k. bit_at w k ≡ 1) (bits_from w at n)
bits_set w at zero = All-nil (λ k. bit_at w k ≡ 1)
bits_set w at (suc n) =
    let P : ℕ → Type 0 = λ k. bit_at w k ≡ 1 in
    cond_both (eqb (bit_at w at) 1) (at ∷ bits_from w (suc at) n) (bits_from w (suc at) n) (All P) (λ is. All-cons P at (bits_from w (suc at) n) (eqb-true (bit_at w at) 1 is) (bits_set w (suc at) n)) (λ _. bits_set w (suc at) n)

-- the numbers after a place are above it
above : (w at n : ℕ) → All (λ k. at < k) (bits_from w (suc at) n)
above w at n = All-weaker (λ k. (suc at ≤ k) × (k < suc at + n)) (λ k. at < k) (λ k b. omega arith) (bits_from w (suc at) n) (bits_within w (suc at) n)

-- a bit is set
here_set : (u w at n : ℕ) → ((k : ℕ) → at < k → k < at + suc n → bit_at u k ≡ bit_at w k) → bit_at u at ≡ 1 → bits_from u at (suc n) ≡ with_member (bits_from w at (suc n)) at
here_set u w at n same is =
    let W = bits_from w (suc at) n in
    let rest : bits_from u (suc at) n ≡ W = same_bits u w (suc at) n (λ k low high. same k (omega arith) (omega arith)) in
    let front : filter (λ o. ltb o at) W ≡ [] = filter_none (λ o. ltb o at) W (All-weaker (λ k. at < k) (λ o. ltb o at ≡ false) (λ k lt. le-ltb k at (omega arith)) W (above w at n)) in
    let back : filter (λ o. ltb at o) W ≡ W = filter_all (λ o. ltb at o) W (All-weaker (λ k. at < k) (λ o. ltb at o ≡ true) (λ k lt. lt-ltb at k lt) W (above w at n)) in
    let itself : ltb at at ≡ false = le-ltb at at (omega arith) in
    let left : bits_from u at (suc n) ≡ at ∷ W = ap (λ (b : ℕ). cond (eqb b 1) (at ∷ bits_from u (suc at) n) (bits_from u (suc at) n)) is ∙ ap (λ (z : List ℕ). at ∷ z) rest in
    left ∙ cond_both (eqb (bit_at w at) 1) (at ∷ W) W (λ xs. at ∷ W ≡ with_member xs at) (λ _. rw (itself, front, back) refl) (λ _. rw (front, back) refl)

pub with_bit : (u w at n m : ℕ) → at ≤ m → m < at + n → ((k : ℕ) → k < at + n → k ≢ m → bit_at u k ≡ bit_at w k) → bit_at u m ≡ 1 → bits_from u at n ≡ with_member (bits_from w at n) m
with_bit u w at zero m low high same is = absurd (omega arith)
with_bit u w at (suc n) m low high same is =
    elim (cases_eq at m) [
      | inl here ↦
          subst (λ x. bits_from u at (suc n) ≡ with_member (bits_from w at (suc n)) x) here
          (here_set u w at n (λ k after before. same k before (λ e. omega arith)) (subst (λ x. bit_at u x ≡ 1) (sym here) is))
      | inr apart ↦
          let lt : at < m = omega arith in
          let W = bits_from w (suc at) n in
          let rest : bits_from u (suc at) n ≡ with_member W m = with_bit u w (suc at) n m (omega arith) (omega arith) (λ k before other. same k (omega arith) other) is in
          let bit : bit_at u at ≡ bit_at w at = same at (omega arith) apart in
          ap (λ (b : ℕ). cond (eqb b 1) (at ∷ bits_from u (suc at) n) (bits_from u (suc at) n)) bit
          ∙ ap (λ (xs : List ℕ). cond (eqb (bit_at w at) 1) (at ∷ xs) xs) rest
          ∙ kept (eqb (bit_at w at) 1) W lt
    ]
  where
    kept : (b : Bool) (W : List ℕ) → at < m → cond b (at ∷ with_member W m) (with_member W m) ≡ with_member (cond b (at ∷ W) W) m
    kept true W lt = rw (lt-ltb at m lt, le-ltb m at (omega arith)) refl
    kept false W lt = refl

-- a bit is cleared
pub without_bit : (u w at n m : ℕ) → ((k : ℕ) → k < at + n → k ≢ m → bit_at u k ≡ bit_at w k) → bit_at u m ≡ 0 → bits_from u at n ≡ without_member (bits_from w at n) m
without_bit u w at zero m same is = refl
without_bit u w at (suc n) m same is =
    let W = bits_from w (suc at) n in
    let rest : bits_from u (suc at) n ≡ without_member W m = without_bit u w (suc at) n m (λ k before other. same k (omega arith) other) is in
    elim (cases_eq at m) [
      | inl here ↦
          let gone : eqb (bit_at u at) 1 ≡ false = subst (λ x. eqb (bit_at u x) 1 ≡ false) (sym here) (ap (λ (b : ℕ). eqb b 1) is) in
          ap (λ (b : Bool). cond b (at ∷ bits_from u (suc at) n) (bits_from u (suc at) n)) gone
          ∙ rest ∙ lost (eqb (bit_at w at) 1) W here
      | inr apart ↦
          ap (λ (b : ℕ). cond (eqb b 1) (at ∷ bits_from u (suc at) n) (bits_from u (suc at) n)) (same at (omega arith) apart)
          ∙ ap (λ (xs : List ℕ). cond (eqb (bit_at w at) 1) (at ∷ xs) xs) rest
          ∙ kept (eqb (bit_at w at) 1) W apart
    ]
  where
    kept : (b : Bool) (W : List ℕ) → at ≢ m → cond b (at ∷ without_member W m) (without_member W m) ≡ without_member (cond b (at ∷ W) W) m
    kept true W apart = rw (ne_eqb at m apart) refl
    kept false W apart = refl

    lost : (b : Bool) (W : List ℕ) → at ≡ m → without_member W m ≡ without_member (cond b (at ∷ W) W) m
    lost true W here = rw (eq-eqb at m here) refl
    lost false W here = refl

bit_found : (w at n m : ℕ) → at ≤ m → m < at + n → bit_at w m ≡ 1 → Contains (bits_from w at n) m
bit_found w at zero m low high is = absurd (omega arith)
bit_found w at (suc n) m low high is =
    let W = bits_from w (suc at) n in
    elim (cases_eq at m) [
      | inl here ↦
          let set : eqb (bit_at w at) 1 ≡ true = subst (λ x. eqb (bit_at w x) 1 ≡ true) (sym here) (ap (λ (b : ℕ). eqb b 1) is) in
          subst (λ (b : Bool). Contains (cond b (at ∷ W) W) m) (sym set) (zero, omega arith, here)
      | inr apart ↦
          let there = bit_found w (suc at) n m (omega arith) (omega arith) is in
          cond_both (eqb (bit_at w at) 1) (at ∷ W) W (λ xs. Contains xs m) (λ _. (suc there.0, omega arith, there.2)) (λ _. there)
    ]

no_ones : count_ones 0 ≡ 0
no_ones = let few : count_ones 0 ≤ 0 = ones-le 0 0 (omega arith) in omega arith

-- how many bits are set
few_set : (w at n : ℕ) → w < 2 ^ (at + n) → length (bits_from w at n) ≡ count_ones (w / 2 ^ at)
few_set w at zero small =
    let same : 0 + at ≡ at + 0 = omega arith in
    let below : w / 2 ^ at < 2 ^ 0 = shr_below w 0 at (subst (λ (x : ℕ). w < 2 ^ x) (sym same) small) in
    let none : w / 2 ^ at ≡ 0 = omega arith in
    sym (ap count_ones none ∙ no_ones)
few_set w at (suc n) small =
    let W = bits_from w (suc at) n in
    let further : at + suc n ≡ suc at + n = omega arith in
    let rest : length W ≡ count_ones (w / 2 ^ suc at) = few_set w (suc at) n (subst (λ (x : ℕ). w < 2 ^ x) further small) in
    let plus : at + 1 ≡ suc at = omega arith in
    let halved : w / 2 ^ at / 2 ≡ w / 2 ^ suc at = shr-shr w at 1 ∙ ap (λ (x : ℕ). w / 2 ^ x) plus in
    let bit = bit_at-lt w at in
    let step : length (bits_from w at (suc n)) ≡ bit_at w at + length W =
    cond_both (eqb (bit_at w at) 1) (at ∷ W) W (λ xs. length xs ≡ bit_at w at + length W)
    (λ is. let one = eqb-true (bit_at w at) 1 is in omega arith)
    (λ is. let other = eqb-false (bit_at w at) 1 is in zero_then (bit_at w at) (length W) bit other) in
    step ∙ ap (λ (x : ℕ). bit_at w at + x) (rest ∙ sym (ap count_ones halved)) ∙ sym (ones_step (w / 2 ^ at))
  where
    zero_then : (b l : ℕ) → b < 2 → (b ≡ 1 → ⊥) → l ≡ b + l
    zero_then b l lt other = elim (cases_eq b 1) [ inl one ↦ absurd (other one) | inr apart ↦ omega arith ]

-- the least number from one on
found_from : (w at n k m : ℕ) → at ≤ k → k < at + n → m ≤ k → bit_at w k ≡ 1 → ((i : ℕ) → m ≤ i → i < k → bit_at w i ≡ 0) → least_from (bits_from w at n) m ≡ Some k
found_from w at zero k m low high le is none = absurd (omega arith)
found_from w at (suc n) k m low high le is none =
    let W = bits_from w (suc at) n in
    elim (cases_eq at k) [
      | inl here ↦
          let set : eqb (bit_at w at) 1 ≡ true = subst (λ x. eqb (bit_at w x) 1 ≡ true) (sym here) (ap (λ (b : ℕ). eqb b 1) is) in
          let passes : ltb at m ≡ false = le-ltb at m (omega arith) in
          rw (set, passes) (ap Some here)
      | inr apart ↦
          let rest = found_from w (suc at) n k m (omega arith) (omega arith) le is none in
          elim (cases_lt at m) [
            | inl lt ↦ cond_both (eqb (bit_at w at) 1) (at ∷ W) W (λ xs. least_from xs m ≡ Some k) (λ _. rw (lt-ltb at m lt) rest) (λ _. rest)
            | inr from ↦
                let clear : eqb (bit_at w at) 1 ≡ false = ap (λ (b : ℕ). eqb b 1) (none at from (omega arith)) in
                rw clear rest
          ]
    ]

none_from : (w at n m : ℕ) → ((i : ℕ) → m ≤ i → i < at + n → bit_at w i ≡ 0) → filter (λ o. not (ltb o m)) (bits_from w at n) ≡ []
none_from w at zero m none = refl
none_from w at (suc n) m none =
    let W = bits_from w (suc at) n in
    let rest = none_from w (suc at) n m (λ i from before. none i from (omega arith)) in
    elim (cases_lt at m) [
      | inl lt ↦ cond_both (eqb (bit_at w at) 1) (at ∷ W) W (λ xs. filter (λ o. not (ltb o m)) xs ≡ []) (λ _. rw (lt-ltb at m lt) rest) (λ _. rest)
      | inr from ↦
          let clear : eqb (bit_at w at) 1 ≡ false = ap (λ (b : ℕ). eqb b 1) (none at from (omega arith)) in
          rw clear rest
    ]

first_of_both : (xs ys : List ℕ) (k : ℕ) → slice_get xs 0 ≡ Some k → slice_get (xs ++ ys) 0 ≡ Some k
first_of_both [] ys k is = absurd (cc is)
first_of_both (x ∷ xs) ys k is = is

pub low : (w : ℕ) → All (λ k. k < 64) (bits_of w)
unfolding bits_of
low w = All-weaker (λ k. (0 ≤ k) × (k < 0 + 64)) (λ k. k < 64) (λ k b. omega arith) (bits_from w 0 64) (bits_within w 0 64)

pub no_bits : bits_of 0 ≡ []
unfolding bits_of
no_bits = refl

-- the whole set, of a word and greater numbers
module _ (w : ℕ) (far : List ℕ) (apart : All (λ m. 64 ≤ m) far) where
  far_below : (m : ℕ) → m < 64 → filter (λ o. ltb o m) far ≡ []
  far_below m lt = filter_none (λ o. ltb o m) far (All-weaker (λ k. 64 ≤ k) (λ o. ltb o m ≡ false) (λ k le. le-ltb k m (omega arith)) far apart)

  far_above : (m : ℕ) → m < 64 → filter (λ o. ltb m o) far ≡ far
  far_above m lt = filter_all (λ o. ltb m o) far (All-weaker (λ k. 64 ≤ k) (λ o. ltb m o ≡ true) (λ k le. lt-ltb m k (omega arith)) far apart)

  near_below : (m : ℕ) → 64 ≤ m → filter (λ o. ltb o m) (bits_of w) ≡ bits_of w
  near_below m le = filter_all (λ o. ltb o m) (bits_of w) (All-weaker (λ k. k < 64) (λ o. ltb o m ≡ true) (λ k lt. lt-ltb k m (omega arith)) (bits_of w) (low w))

  near_above : (m : ℕ) → 64 ≤ m → filter (λ o. ltb m o) (bits_of w) ≡ []
  near_above m le = filter_none (λ o. ltb m o) (bits_of w) (All-weaker (λ k. k < 64) (λ o. ltb m o ≡ false) (λ k lt. le-ltb m k (omega arith)) (bits_of w) (low w))

  member_near : (m : ℕ) → m < 64 → with_member (bits_of w ++ far) m ≡ with_member (bits_of w) m ++ far
  member_near m lt =
      rw (filter-append (λ o. ltb o m) (bits_of w) far, filter-append (λ o. ltb m o) (bits_of w) far, far_below m lt, far_above m lt, append-nil (filter (λ o. ltb o m) (bits_of w)))
      (joined (filter (λ o. ltb o m) (bits_of w)) (filter (λ o. ltb m o) (bits_of w)))
    where
      joined : (xs ys : List ℕ) → xs ++ m ∷ (ys ++ far) ≡ (xs ++ m ∷ ys) ++ far
      joined [] ys = refl
      joined (x ∷ xs) ys = ap (λ z. x ∷ z) (joined xs ys)

  pub member_far : (m : ℕ) → 64 ≤ m → with_member (bits_of w ++ far) m ≡ bits_of w ++ with_member far m
  member_far m le =
      rw (filter-append (λ o. ltb o m) (bits_of w) far, filter-append (λ o. ltb m o) (bits_of w) far, near_below m le, near_above m le)
      (joined (bits_of w) (filter (λ o. ltb o m) far))
    where
      joined : (xs ys : List ℕ) → (xs ++ ys) ++ m ∷ filter (λ o. ltb m o) far ≡ xs ++ (ys ++ m ∷ filter (λ o. ltb m o) far)
      joined [] ys = refl
      joined (x ∷ xs) ys = ap (λ z. x ∷ z) (joined xs ys)

  pub set_near : (u m : ℕ) → m < 64 → ((k : ℕ) → k < 64 → k ≢ m → bit_at u k ≡ bit_at w k) → bit_at u m ≡ 1 → bits_of u ++ far ≡ with_member (bits_of w ++ far) m
  unfolding bits_of
  set_near u m lt same is = ap (λ (xs : List ℕ). xs ++ far) (with_bit u w 0 64 m (omega arith) lt same is) ∙ sym (member_near m lt)

  pub clear_near : (u m : ℕ) → m < 64 → ((k : ℕ) → k < 64 → k ≢ m → bit_at u k ≡ bit_at w k) → bit_at u m ≡ 0 → bits_of u ++ far ≡ without_member (bits_of w ++ far) m
  unfolding bits_of
  clear_near u m lt same is =
      ap (λ (xs : List ℕ). xs ++ far) (without_bit u w 0 64 m same is)
      ∙ ap (λ (xs : List ℕ). without_member (bits_of w) m ++ xs) (sym (filter_all (λ x. not (eqb x m)) far (All-weaker (λ k. 64 ≤ k) (λ x. not (eqb x m) ≡ true) (λ k le. rw (ne_eqb k m (λ e. omega arith)) refl) far apart)))
      ∙ sym (filter-append (λ x. not (eqb x m)) (bits_of w) far)

  pub without_far : (m : ℕ) → 64 ≤ m → bits_of w ++ without_member far m ≡ without_member (bits_of w ++ far) m
  without_far m le =
      ap (λ (xs : List ℕ). xs ++ without_member far m) (sym (filter_all (λ x. not (eqb x m)) (bits_of w) (All-weaker (λ k. k < 64) (λ x. not (eqb x m) ≡ true) (λ k lt. rw (ne_eqb k m (λ e. omega arith)) refl) (bits_of w) (low w))))
      ∙ sym (filter-append (λ x. not (eqb x m)) (bits_of w) far)

  pub contains_near : (m : ℕ) → m < 64 → IsTrue (eqb (bit_at w m) 1) ↔ Contains (bits_of w ++ far) m
  unfolding bits_of
  contains_near m lt = (
    λ is. Contains-append_left (bits_from w 0 64) far m (bit_found w 0 64 m (omega arith) lt (eqb-true (bit_at w m) 1 is)),
    λ has. ⊎_elim
        (λ (there : Contains (bits_from w 0 64) m). eq-eqb (bit_at w m) 1 (All-contains (λ k. bit_at w k ≡ 1) (bits_from w 0 64) m (bits_set w 0 64) there))
        (λ (there : Contains far m). absurd (let le : 64 ≤ m = All-contains (λ k. 64 ≤ k) far m apart there in omega arith))
        (Contains-append_cases (bits_from w 0 64) far m has),
  )

  pub far_member : (m : ℕ) → 64 ≤ m → Contains (bits_of w ++ far) m → Contains far m
  far_member m le has =
      ⊎_elim
      (λ (there : Contains (bits_of w) m). absurd (let lt : m < 64 = All-contains (λ k. k < 64) (bits_of w) m (low w) there in omega arith))
      (λ (there : Contains far m). there)
      (Contains-append_cases (bits_of w) far m has)

  pub contains_far : (m : ℕ) (b : Bool) → 64 ≤ m → (IsTrue b ↔ Contains far m) → IsTrue b ↔ Contains (bits_of w ++ far) m
  contains_far m b le both = (λ is. Contains-append_right (bits_of w) far m (both.0 is), λ has. both.1 (far_member m le has))

  pub counted : w < 2 ^ 64 → count_ones w + length far ≡ length (bits_of w ++ far)
  unfolding bits_of
  counted small =
      let whole : w / 2 ^ 0 ≡ w = omega arith in
      let bits : length (bits_from w 0 64) ≡ count_ones w = few_set w 0 64 small ∙ ap count_ones whole in
      ap (λ (x : ℕ). x + length far) (sym bits) ∙ sym (length-append (bits_from w 0 64) far)

  pub increasing : IsStrictlyIncreasing far → IsStrictlyIncreasing (bits_of w ++ far)
  unfolding bits_of
  increasing rises =
      let R : ℕ → ℕ → Type 0 = λ x y. x < y in
      increasing_from_AllPairs (bits_of w ++ far)
      (AllPairs-append R (bits_of w) far (pairs 0 64) (AllPairs-from_increasing far rises)
      (All-weaker (λ k. k < 64) (λ x. All (R x) far) (λ k lt. All-weaker (λ m. 64 ≤ m) (R k) (λ m le. omega arith) far apart) (bits_of w) (low w)))
    where
      pairs : (at n : ℕ) → AllPairs (λ x y. x < y) (bits_from w at n)
      pairs at zero = AllPairs-nil (λ x y. x < y)
      pairs at (suc n) =
          let W = bits_from w (suc at) n in
          cond_both (eqb (bit_at w at) 1) (at ∷ W) W (AllPairs (λ x y. x < y)) (λ _. AllPairs-cons (λ x y. x < y) at W (above w at n) (pairs (suc at) n)) (λ _. pairs (suc at) n)

  -- the least one from m on, which the word has
  pub least_near : w < 2 ^ 64 → (m k : ℕ) → m ≤ k → bit_at w k ≡ 1 → ((i : ℕ) → m ≤ i → i < k → bit_at w i ≡ 0) → Some k ≡ least_from (bits_of w ++ far) m
  unfolding bits_of
  least_near small m k le is none =
      let within : k < 64 = elim (cases_lt k 64) [ inl lt ↦ lt | inr past ↦ absurd (let zero_bit = bit_at_above w 64 k small past in omega arith) ] in
      let test : ℕ → Bool = λ o. not (ltb o m) in
      sym (ap (λ (xs : List ℕ). slice_get xs 0) (filter-append test (bits_from w 0 64) far)
      ∙ first_of_both (filter test (bits_from w 0 64)) (filter test far) k (found_from w 0 64 k m (omega arith) within le is none))

  -- or the others have
  pub least_far : (m : ℕ) → ((i : ℕ) → m ≤ i → i < 64 → bit_at w i ≡ 0) → least_from far m ≡ least_from (bits_of w ++ far) m
  unfolding bits_of
  least_far m none =
      let test : ℕ → Bool = λ o. not (ltb o m) in
      sym (ap (λ (xs : List ℕ). slice_get xs 0) (filter-append test (bits_from w 0 64) far)
      ∙ ap (λ (xs : List ℕ). slice_get (xs ++ filter test far) 0) (none_from w 0 64 m none))

-- the lowest bit of what is left of a word beyond a place
pub lowest_from : (w : ℕ) (far : List ℕ) → All (λ m. 64 ≤ m) far → w < 2 ^ 64 → (m : ℕ) → (w / 2 ^ m ≡ 0 → ⊥) → Some (m + trailing_zeros w64 (w / 2 ^ m)) ≡ least_from (bits_of w ++ far) m
lowest_from w far apart small m some =
    let left = w / 2 ^ m in
    let within = shr_le w m in
    let lowest = bit_at-trailing_zeros w64 left (above_zero left some) (omega arith) in
    let z = trailing_zeros w64 left in
    least_near w far apart small m (m + z) (omega arith) (ap (λ (x : ℕ). x % 2) (sym (shr-shr w m z)) ∙ lowest.1)
    (λ i le lt.
    let further : m + (i - m) ≡ i = omega arith in
    subst (λ (x : ℕ). bit_at w x ≡ 0) further (ap (λ (x : ℕ). x % 2) (sym (shr-shr w m (i - m))) ∙ lowest.2 (i - m) (omega arith)))
  where
    above_zero : (n : ℕ) → (n ≡ 0 → ⊥) → 0 < n
    above_zero zero some = absurd (some refl)
    above_zero (suc n) some = omega arith

pub none_left : (w : ℕ) (far : List ℕ) → All (λ m. 64 ≤ m) far → (m : ℕ) → w / 2 ^ m ≡ 0 → least_from far m ≡ least_from (bits_of w ++ far) m
none_left w far apart m none =
    least_far w far apart m
    (λ i le lt.
    let further : m + (i - m) ≡ i = omega arith in
    subst (λ (x : ℕ). bit_at w x ≡ 0) further (ap (λ (x : ℕ). x % 2) (sym (shr-shr w m (i - m)) ∙ ap (λ (x : ℕ). x / 2 ^ (i - m)) none) ∙ bit_at-zero (i - m)))

-- greater numbers stay so with one more, or one less
pub far_with : (far new : List ℕ) (m : ℕ) (r : Result (Unit {0}) NoMemory) → All (λ k. 64 ≤ k) far → 64 ≤ m → OnOk r (new ≡ with_member far m) → OnErr r (new ≡ far) → All (λ k. 64 ≤ k) new
far_with far new m (Ok u) apart le ok err = rw ok (All-insert (λ k. 64 ≤ k) (λ o. ltb o m) (λ o. ltb m o) m far apart le)
far_with far new m (Err e) apart le ok err = rw err apart

pub far_without : (far : List ℕ) (m : ℕ) → All (λ k. 64 ≤ k) far → All (λ k. 64 ≤ k) (without_member far m)
far_without far m apart = All-filter (λ x. not (eqb x m)) (λ k. 64 ≤ k) far apart

-- two sets are equal where their words and their greater numbers are
same_lists : (xs ys : List ℕ) → pointwise nat_eq xs ys ≡ true → xs ≡ ys
same_lists [] [] is = refl
same_lists [] (y ∷ ys) is = absurd (cc is)
same_lists (x ∷ xs) [] is = absurd (cc is)
same_lists (x ∷ xs) (y ∷ ys) is =
    let parts = and_parts (eqb x y) (pointwise nat_eq xs ys) is in
    let first : x ≡ y = eqb-true x y parts.0 in
    let rest : xs ≡ ys = same_lists xs ys parts.1 in cc

itself : (xs : List ℕ) → pointwise nat_eq xs xs ≡ true
itself [] = refl
itself (x ∷ xs) = and_from (eqb x x) (pointwise nat_eq xs xs) (eq-eqb x x refl) (itself xs)

both_ways : (b c : Bool) → (b ≡ true → c ≡ true) → (c ≡ true → b ≡ true) → b ≡ c
both_ways true c to from = sym (to refl)
both_ways false true to from = from refl
both_ways false false to from = refl

equal_bits : (a b : ℕ) → a < 2 → b < 2 → (a ≡ 1 → b ≡ 1) → (b ≡ 1 → a ≡ 1) → a ≡ b
equal_bits a b small_a small_b to from =
    elim (cases_eq a 1) [
      | inl one ↦ one ∙ sym (to one)
      | inr other ↦ elim (cases_eq b 1) [ inl one ↦ absurd (other (from one)) | inr apart ↦ omega arith ]
    ]

words_apart : (u w : ℕ) → u < 2 ^ 64 → w < 2 ^ 64 → bits_of u ≡ bits_of w → u ≡ w
unfolding bits_of
words_apart u w small_u small_w same =
    same_from_bits_below 64 u w small_u small_w
    (λ i lt. equal_bits (bit_at u i) (bit_at w i) (bit_at-lt u i) (bit_at-lt w i)
    (λ is. All-contains (λ k. bit_at w k ≡ 1) (bits_from w 0 64) i (bits_set w 0 64) (subst (λ (xs : List ℕ). Contains xs i) same (bit_found u 0 64 i (omega arith) lt is)))
    (λ is. All-contains (λ k. bit_at u k ≡ 1) (bits_from u 0 64) i (bits_set u 0 64) (subst (λ (xs : List ℕ). Contains xs i) (sym same) (bit_found w 0 64 i (omega arith) lt is))))

parted_low : (w : ℕ) (far : List ℕ) → All (λ m. 64 ≤ m) far → filter (λ o. ltb o 64) (bits_of w ++ far) ≡ bits_of w
parted_low w far apart =
    filter-append (λ o. ltb o 64) (bits_of w) far
    ∙ ap (λ (xs : List ℕ). xs ++ filter (λ o. ltb o 64) far) (filter_all (λ o. ltb o 64) (bits_of w) (All-weaker (λ k. k < 64) (λ o. ltb o 64 ≡ true) (λ k lt. lt-ltb k 64 lt) (bits_of w) (low w)))
    ∙ ap (λ (xs : List ℕ). bits_of w ++ xs) (filter_none (λ o. ltb o 64) far (All-weaker (λ k. 64 ≤ k) (λ o. ltb o 64 ≡ false) (λ k le. le-ltb k 64 le) far apart))
    ∙ append-nil (bits_of w)

parted_high : (w : ℕ) (far : List ℕ) → All (λ m. 64 ≤ m) far → filter (λ o. not (ltb o 64)) (bits_of w ++ far) ≡ far
parted_high w far apart =
    let test : ℕ → Bool = λ o. not (ltb o 64) in
    filter-append test (bits_of w) far
    ∙ ap (λ (xs : List ℕ). xs ++ filter test far) (filter_none test (bits_of w) (All-weaker (λ k. k < 64) (λ o. test o ≡ false) (λ k lt. rw (lt-ltb k 64 lt) refl) (bits_of w) (low w)))
    ∙ filter_all test far (All-weaker (λ k. 64 ≤ k) (λ o. test o ≡ true) (λ k le. rw (le-ltb k 64 le) refl) far apart)

pub equal_sets : (u w : ℕ) (f g : List ℕ) → u < 2 ^ 64 → w < 2 ^ 64 → All (λ m. 64 ≤ m) f → All (λ m. 64 ≤ m) g → (eqb u w && pointwise nat_eq f g) ≡ pointwise nat_eq (bits_of u ++ f) (bits_of w ++ g)
equal_sets u w f g small_u small_w far_f far_g =
    both_ways (eqb u w && pointwise nat_eq f g) (pointwise nat_eq (bits_of u ++ f) (bits_of w ++ g))
    (λ is.
    let parts = and_parts (eqb u w) (pointwise nat_eq f g) is in
    let words : u ≡ w = eqb-true u w parts.0 in
    let lists : f ≡ g = same_lists f g parts.1 in
    let whole : bits_of u ++ f ≡ bits_of w ++ g = cc in
    subst (λ (xs : List ℕ). pointwise nat_eq (bits_of u ++ f) xs ≡ true) whole (itself (bits_of u ++ f)))
    (λ is.
    let whole : bits_of u ++ f ≡ bits_of w ++ g = same_lists (bits_of u ++ f) (bits_of w ++ g) is in
    let words : bits_of u ≡ bits_of w = sym (parted_low u f far_f) ∙ ap (filter (λ o. ltb o 64)) whole ∙ parted_low w g far_g in
    let lists : f ≡ g = sym (parted_high u f far_f) ∙ ap (filter (λ o. not (ltb o 64))) whole ∙ parted_high w g far_g in
    and_from (eqb u w) (pointwise nat_eq f g) (eq-eqb u w (words_apart u w small_u small_w words))
    (subst (λ (xs : List ℕ). pointwise nat_eq f xs ≡ true) lists (itself f)))
