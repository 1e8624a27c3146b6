-- What a search finds in an ascending list of numbers, and what an edit at that place makes of it.
use Rattle.std.proofs.Common.{◌≡◌, ℕ, zero, suc, ◌+◌, ◌-◌, ◌<◌, ◌≤◌, Bool, true, false, not, eqb, ltb, nat_cmp, List, [], ◌∷◌, ◌++◌, length, take, drop, get_or, Contains, IsTrue, is_ok, ◌↔◌, Result, Ok, Err, MatchResult, refl, sym, ap, ◌∙◌, subst, arith, slice_get}
use mathlib.Core.Bool.{false≢true}
use Rattle.std.specs.List.{filter, insert, remove}
use Rattle.std.specs.List.Sorted.{IsStrictlyIncreasing, IsBinarySearchResult}
use Rattle.std.proofs.lemmas.Bool.{lt-ltb, le-ltb, ne_eqb, eq-eqb}
use Rattle.std.proofs.lemmas.List.{take-append-drop, get_or_default}
use Rattle.std.proofs.lemmas.List.Edits.{length-insert, get_or-insert_below, get_or-insert_at, get_or-insert_above}
use Rattle.std.proofs.lemmas.List.Kept.{AllPairs-from_increasing}
use Rattle.std.proofs.lemmas.List.Sorted.{searched}
use Rattle.std.proofs.Math.Seq.{drop-cons}
use Rattle.ruby_value.specs.Prelude.{least_from, with_member, without_member}

-- the number stands at this place: smaller ones before it, greater ones after it
pub record IsAt (xs : List ℕ) (m at : ℕ) : Type 0 where
  pub in_range : at < length xs
  pub has : get_or xs at 0 ≡ m
  pub smaller_before : (j : ℕ) → j < at → get_or xs j 0 < m
  pub greater_after : (j : ℕ) → at < j → j < length xs → m < get_or xs j 0

-- the number isn't there and would go to this place
pub record IsGapFor (xs : List ℕ) (m at : ℕ) : Type 0 where
  pub in_range : at ≤ length xs
  pub smaller_before : (j : ℕ) → j < at → get_or xs j 0 < m
  pub greater_from : (j : ℕ) → at ≤ j → j < length xs → m < get_or xs j 0

rises : (xs : List ℕ) → IsStrictlyIncreasing xs → (i j : ℕ) → i < j → j < length xs → get_or xs i 0 < get_or xs j 0
rises xs sorted i j = AllPairs-from_increasing xs sorted i j 0

pub place_of : (xs : List ℕ) (m : ℕ) (r : Result ℕ ℕ) → IsStrictlyIncreasing xs → IsBinarySearchResult (λ y. nat_cmp y m) xs r → MatchResult r (IsAt xs m) (IsGapFor xs m)
place_of xs m (Ok at) sorted found =
    let at_place = searched xs m (Ok at) found (λ i j le within. grind (arith, rises xs sorted i j)) in
    record {
      in_range = at_place.0;
      has = at_place.1;
      smaller_before = λ j lt. omega (arith, rises xs sorted j at lt at_place.0, at_place.1);
      greater_after = λ j lt within. omega (arith, rises xs sorted at j lt within, at_place.1);
    }
place_of xs m (Err at) sorted found =
    let gap = searched xs m (Err at) found (λ i j le within. grind (arith, rises xs sorted i j)) in
    record { in_range = gap.0; smaller_before = gap.1; greater_from = gap.2 }

-- the first p elements pass the test, and the others don't
pub filter_front : (test : ℕ → Bool) (xs : List ℕ) (p : ℕ) → ((j : ℕ) → j < p → j < length xs → test (get_or xs j 0) ≡ true) → ((j : ℕ) → p ≤ j → j < length xs → test (get_or xs j 0) ≡ false) → filter test xs ≡ take p xs
filter_front test [] zero front back = refl
filter_front test [] (suc p) front back = refl
filter_front test (x ∷ xs) zero front back =
    rw (back 0 (omega arith) (omega arith)) (filter_front test xs zero (λ j lt within. absurd (omega arith)) (λ j le within. back (suc j) (omega arith) (omega arith)))
filter_front test (x ∷ xs) (suc p) front back =
    rw (front 0 (omega arith) (omega arith)) (ap (λ z. x ∷ z) (filter_front test xs p (λ j lt within. front (suc j) (omega arith) (omega arith)) (λ j le within. back (suc j) (omega arith) (omega arith))))

-- the elements from place p on pass the test, and the others don't
pub filter_back : (test : ℕ → Bool) (xs : List ℕ) (p : ℕ) → ((j : ℕ) → j < p → j < length xs → test (get_or xs j 0) ≡ false) → ((j : ℕ) → p ≤ j → j < length xs → test (get_or xs j 0) ≡ true) → filter test xs ≡ drop p xs
filter_back test [] zero front back = refl
filter_back test [] (suc p) front back = refl
filter_back test (x ∷ xs) zero front back =
    rw (back 0 (omega arith) (omega arith)) (ap (λ z. x ∷ z) (filter_back test xs zero (λ j lt within. absurd (omega arith)) (λ j le within. back (suc j) (omega arith) (omega arith))))
filter_back test (x ∷ xs) (suc p) front back =
    rw (front 0 (omega arith) (omega arith)) (filter_back test xs p (λ j lt within. front (suc j) (omega arith) (omega arith)) (λ j le within. back (suc j) (omega arith) (omega arith)))

-- all elements but the one at place p pass the test
pub filter_but_one : (test : ℕ → Bool) (xs : List ℕ) (p : ℕ) → p < length xs → test (get_or xs p 0) ≡ false → ((j : ℕ) → j < length xs → (j ≡ p → ⊥) → test (get_or xs j 0) ≡ true) → filter test xs ≡ remove xs p
filter_but_one test [] p within fails others = absurd (omega arith)
filter_but_one test (x ∷ xs) zero within fails others =
    rw fails (filter_back test xs zero (λ j lt inside. absurd (omega arith)) (λ j le inside. others (suc j) (omega arith) (λ same. omega arith)))
filter_but_one test (x ∷ xs) (suc p) within fails others =
    rw (others 0 (omega arith) (λ same. omega arith)) (ap (λ z. x ∷ z) (filter_but_one test xs p (omega arith) fails (λ j inside differs. others (suc j) (omega arith) (λ same. differs (omega arith)))))

module _ (xs : List ℕ) (m at : ℕ) (found : IsAt xs m at) where
  pub with_member_found : with_member xs m ≡ xs
  with_member_found =
      let front = filter_front (λ x. ltb x m) xs at (λ j lt within. lt-ltb _ _ (found.smaller_before j lt)) (λ j le within. le-ltb (get_or xs j 0) m (grind (arith, found.greater_after j, found.has))) in
      let back = filter_back (λ x. ltb m x) xs (suc at) (λ j lt within. le-ltb m (get_or xs j 0) (grind (arith, found.smaller_before j, found.has))) (λ j le within. lt-ltb _ _ (found.greater_after j (omega arith) within)) in
      rw (front, back) (subst (λ x. take at xs ++ x ∷ drop (suc at) xs ≡ xs) found.has (rw (← drop-cons xs at 0 found.in_range) (take-append-drop at xs)))

  pub without_member_found : without_member xs m ≡ remove xs at
  without_member_found =
      filter_but_one (λ x. not (eqb x m)) xs at found.in_range (rw (eq-eqb _ _ found.has) refl) (λ j within apart. rw (ne_eqb (get_or xs j 0) m (λ same. grind (arith, found.smaller_before j, found.greater_after j))) refl)

module _ (xs : List ℕ) (m at : ℕ) (gap : IsGapFor xs m at) where
  pub with_member_gap : with_member xs m ≡ insert xs at m
  with_member_gap =
      let front = filter_front (λ x. ltb x m) xs at (λ j lt within. lt-ltb _ _ (gap.smaller_before j lt)) (λ j le within. le-ltb _ _ (omega (arith, gap.greater_from j le within))) in
      let back = filter_back (λ x. ltb m x) xs at (λ j lt within. le-ltb _ _ (omega (arith, gap.smaller_before j lt))) (λ j le within. lt-ltb _ _ (gap.greater_from j le within)) in
      rw (front, back) refl

  pub differs : (j : ℕ) → j < length xs → get_or xs j 0 ≡ m → ⊥
  differs j within same = grind (arith, gap.smaller_before j, gap.greater_from j)

  pub without_member_gap : without_member xs m ≡ xs
  without_member_gap =
      filter_back (λ x. not (eqb x m)) xs zero (λ j lt within. absurd (omega arith)) (λ j le within. rw (ne_eqb _ _ (differs j within)) refl)

  pub not_contained : Contains xs m → ⊥
  not_contained h = differs h.0 h.1 (subst (λ y. y ≡ m) (get_or_default xs h.0 m 0 h.1) h.2)

  -- the list still ascends with the number in its gap
  pub rises_insert : IsStrictlyIncreasing xs → IsStrictlyIncreasing (insert xs at m)
  rises_insert sorted k within =
      let new = insert xs at m in
      let length_new = length-insert xs at m gap.in_range in
      let below : (i : ℕ) → i < at → get_or new i 0 ≡ get_or xs i 0 = λ i lt. get_or-insert_below xs at m 0 i lt gap.in_range in
      let here : (i : ℕ) → i ≡ at → get_or new i 0 ≡ m = λ i same. rw same (get_or-insert_at xs at m 0 gap.in_range) in
      let above : (i : ℕ) → at < i → get_or new i 0 ≡ get_or xs (i - 1) 0 = λ i gt. subst (λ q. get_or new q 0 ≡ get_or xs (i - 1) 0) {x = i - 1 + 1} (omega arith) (get_or-insert_above xs at m 0 (i - 1) (omega arith) gap.in_range) in
      grind (arith, below k, here k, above k, below (k + 1), here (k + 1), above (k + 1), rises xs sorted k (k + 1), rises xs sorted (k - 1) k, gap.smaller_before k, gap.greater_from k)

-- the search finds a number exactly where the list has it
pub contains_of : (xs : List ℕ) (m : ℕ) (r : Result ℕ ℕ) → IsStrictlyIncreasing xs → IsBinarySearchResult (λ y. nat_cmp y m) xs r → IsTrue (is_ok r) ↔ Contains xs m
contains_of xs m (Ok at) sorted found =
    let here = place_of xs m (Ok at) sorted found in
    (λ _. (at, here.in_range, get_or_default xs at m 0 here.in_range ∙ here.has), λ _. refl)
contains_of xs m (Err at) sorted found = (λ wrong. absurd (false≢true wrong), λ h. absurd (not_contained xs m at (place_of xs m (Err at) sorted found) h))

-- the least one from a number on is what stands at the place that the search names
get_dropped : (xs : List ℕ) (at : ℕ) → slice_get (drop at xs) 0 ≡ slice_get xs at
get_dropped [] zero = refl
get_dropped [] (suc at) = refl
get_dropped (x ∷ xs) zero = refl
get_dropped (x ∷ xs) (suc at) = get_dropped xs at

pub least_at : (xs : List ℕ) (m at : ℕ) → IsAt xs m at → slice_get xs at ≡ least_from xs m
least_at xs m at found =
    let back = filter_back (λ o. not (ltb o m)) xs at
    (λ j lt within. rw (lt-ltb (get_or xs j 0) m (found.smaller_before j lt)) refl)
    (λ j le within. rw (le-ltb (get_or xs j 0) m (from_here j le within)) refl) in
    sym (ap (λ (ys : List ℕ). slice_get ys 0) back ∙ get_dropped xs at)
  where
    from_here : (j : ℕ) → at ≤ j → j < length xs → m ≤ get_or xs j 0
    from_here j le within = grind (arith, found.greater_after j, found.has)

pub least_gap : (xs : List ℕ) (m at : ℕ) → IsGapFor xs m at → slice_get xs at ≡ least_from xs m
least_gap xs m at gap =
    let back = filter_back (λ o. not (ltb o m)) xs at
    (λ j lt within. rw (lt-ltb (get_or xs j 0) m (gap.smaller_before j lt)) refl)
    (λ j le within. rw (le-ltb (get_or xs j 0) m (let above = gap.greater_from j le within in omega arith)) refl) in
    sym (ap (λ (ys : List ℕ). slice_get ys 0) back ∙ get_dropped xs at)
