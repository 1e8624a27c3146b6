-- Numbers of messages compared, and a number's place among items whose numbers don't descend.
use Rattle.std.proofs.Common.{◌≡◌, ◌≢◌, ◌⊎◌, ℕ, ◌+◌, ◌<◌, ◌≤◌, Bool, true, false, not, List, length, get_or, take, drop, refl, sym, ap, subst, ◌∙◌, inl, inr, ⊎_elim, get_or-take, get_or-drop, length-take-le, length-drop, arith}
use Rattle.std.proofs.lemmas.Bool.Decides.{nat_tests}
use Rattle.std.specs.List.{All, AllPairs}
use Rattle.std.specs.List.Sorted.{IsPartitionPoint, IsPartitionedBy}
use Rattle.ruby_value.specs.declared.message.MsgNo.{MsgNo}
use Rattle.ruby_value.specs.Prelude.{IsBefore, number_before, same_number}
use Rattle.stall_map.specs.Prelude.{IsSplit}

pub before-is : (a b : MsgNo) → IsBefore a b → number_before a b ≡ true
before-is a b is = grind (arith, nat_tests, is)

pub not-back : (a b : MsgNo) → IsBefore a b → number_before b a ≡ false
not-back a b is = grind (arith, nat_tests, is)

pub far : (a b c : MsgNo) → IsBefore a b → IsBefore b c → IsBefore a c
far a b c ab bc = grind (arith, ab, bc)

pub not-itself : (a : MsgNo) → number_before a a ≡ false
not-itself a = grind (arith, nat_tests)

pub not-same : (a b : MsgNo) → IsBefore a b → same_number a b ≡ false
not-same a b is = grind (arith, nat_tests, is)

pub not-same-back : (a b : MsgNo) → IsBefore b a → same_number a b ≡ false
not-same-back a b is = grind (arith, nat_tests, is)

pub same-itself : (a : MsgNo) → same_number a a ≡ true
same-itself a = grind (arith, nat_tests)

number-is : (a b : MsgNo) → a.sender ≡ b.sender → a.count ≡ b.count → a ≡ b
number-is a b s n = λ i. record { sender = s i; count = n i }

parts-same : (a b : MsgNo) → same_number a b ≡ true → (a.sender ≡ b.sender) × (a.count ≡ b.count)
parts-same a b is = grind (arith, nat_tests, is)

pub same-is : (a b : MsgNo) → same_number a b ≡ true → a ≡ b
same-is a b is = number-is a b (parts-same a b is).0 (parts-same a b is).1

pub differ-is : (a b : MsgNo) → same_number a b ≡ false → a ≢ b
differ-is a b is same = let both : true ≡ false = sym (same-itself b) ∙ (ap (λ (n : MsgNo). same_number n b) (sym same) ∙ is) in absurd (cc both)

tied-or-before : (a b : MsgNo) → number_before b a ≡ false → ((a.sender ≡ b.sender) × (a.count ≡ b.count)) ⊎ IsBefore a b
tied-or-before a b not_after = grind (arith, nat_tests, not_after)

pub same-or-before : (a b : MsgNo) → number_before b a ≡ false → (a ≡ b) ⊎ IsBefore a b
same-or-before a b not_after =
    ⊎_elim
    (λ same. inl (number-is a b same.0 same.1))
    (λ before. inr before)
    (tied-or-before a b not_after)

pub before-else : (a b : MsgNo) → a ≢ b → number_before b a ≡ false → IsBefore a b
before-else a b differ not_after = ⊎_elim (λ same. absurd (differ same)) (λ before. before) (same-or-before a b not_after)

pub not-up-to : (a b n : MsgNo) → number_before b a ≡ false → number_before n b ≡ false → number_before n a ≡ false
not-up-to a b n ab bn = grind (arith, nat_tests, ab, bn)

pub before-far : (a b n : MsgNo) → number_before b a ≡ false → IsBefore b n → IsBefore a n
before-far a b n ab bn = grind (arith, nat_tests, ab, bn)

pub at-or-above : (i j : ℕ) → (i < j) ⊎ (j ≤ i)
at-or-above i j = grind arith

module _ {X : Type 0} (number_of : X → MsgNo) where
  -- no later number is below an earlier one
  abbrev pub Climbs : List X → Type 0
  Climbs xs = AllPairs (λ a b. number_before (number_of b) (number_of a) ≡ false) xs

  not-not : (b : Bool) → not b ≡ true → b ≡ false
  not-not true is = absurd (cc is)
  not-not false is = refl

  pub partitioned : (number : MsgNo) (xs : List X) → Climbs xs → IsPartitionedBy (λ x. not (number_before number (number_of x))) xs
  partitioned number xs climbs i j d le lt passes =
      ⊎_elim
      (λ less. ap not (not-up-to (number_of (get_or xs i d)) (number_of (get_or xs j d)) number (climbs i j d less lt) (not-not _ passes)))
      (λ ge. subst (λ k. not (number_before number (number_of (get_or xs k d))) ≡ true) (same i j le ge) passes)
      (at-or-above i j)
    where
      same : (i j : ℕ) → i ≤ j → j ≤ i → j ≡ i
      same i j le ge = omega arith

  not-false : (b : Bool) → not b ≡ false → b ≡ true
  not-false true is = refl
  not-false false is = absurd (cc is)

  pub split : (number : MsgNo) (xs : List X) (at : ℕ) → at ≤ length xs
      → IsPartitionPoint (λ x. not (number_before number (number_of x)) ≡ true) (λ x. not (number_before number (number_of x)) ≡ false) xs at
      → IsSplit number_of number xs at
  split number xs at within point = record {
    within = within;
    below = λ k d lt. not-not _ (point.0 k d (omega arith) lt);
    above = λ k d le lt. not-false _ (point.1 k d le lt);
  }

module _ {X : Type 0} (P : X → Type 0) where
  -- what holds below a place, and what from it on
  pub All-front : (xs : List X) (at : ℕ) → at ≤ length xs → ((k : ℕ) (d : X) → k < at → P (get_or xs k d)) → All P (take at xs)
  All-front xs at within below k d lt =
      let less : k < at = omega (arith, length-take-le at xs within) in
      subst P (sym (get_or-take at xs k d less)) (below k d less)

  pub All-back : (xs : List X) (at : ℕ) → ((k : ℕ) (d : X) → at ≤ k → k < length xs → P (get_or xs k d)) → All P (drop at xs)
  All-back xs at above k d lt = subst P (sym (get_or-drop at xs k d)) (above (at + k) d (omega arith) (omega (arith, length-drop at xs)))
