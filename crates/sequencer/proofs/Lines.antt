-- A list of requests that ascends by line is the finite map of them: what a look-up, an insert and a remove make of it.
use Rattle.std.proofs.Common.{◌≡◌, ◌≢◌, ◌⊎◌, ℕ, zero, suc, ◌<◌, ◌≤◌, Bool, true, false, cond, eqb, List, [], ◌∷◌, length, get_or, map, Option, Some, None, IsSome, refl, sym, ap, subst, ◌∙◌, arith, inl, inr, ⊎_elim}
use mathlib.Core.Bool.{false≢true}
use Rattle.std.proofs.lemmas.Bool.{eq-eqb, ne_eqb, cases_eq}
use Rattle.std.proofs.lemmas.List.Elements.{All-cons, All-head, All-tail}
use Rattle.std.proofs.lemmas.List.Kept.{AllPairs-cons}
use Rattle.std.specs.List.{All, AllPairs, insert, remove}
use Rattle.std.specs.Map.{lookup}
use Rattle.std.specs.FinMap as finite
use Rattle.ruby_value.specs.declared.asked.Asked.{Asked}
use Rattle.ruby_value.proofs.Entries.{get_entries, inserted, removed}
use Rattle.ruby_value.proofs.Ordered.{AllPairs-head, AllPairs-tail}
use Rattle.sequencer.specs.Prelude.{AreRequests, ComesBefore, entry_of, outstanding_of, IsPlaceOf}
use Rattle.ruby_value.specs.Prelude.{IsRequest}
use Rattle.std.proofs.lemmas.List.Quantifiers.{all_pairs_remove}

any_default : (ys : List Asked) (i : ℕ) (d e : Asked) → i < length ys → get_or ys i d ≡ get_or ys i e
any_default [] i d e less = absurd (omega arith)
any_default (y ∷ ys) zero d e less = refl
any_default (y ∷ ys) (suc i) d e less = any_default ys i d e (omega arith)

-- a place in the rest of a list
further : (x : Asked) (xs : List Asked) (line at : ℕ) → IsPlaceOf (x ∷ xs) line (suc at) → IsPlaceOf xs line at
further x xs line at is = record {
  within = omega (arith, is.within);
  below = λ k d lt. is.below (suc k) d (omega arith);
  above = λ k d le lt. is.above (suc k) d (omega arith) (omega arith);
}

swapped : (a b : Bool) (x y z : Option Asked) → ((a ≡ true) → (b ≡ true) → ⊥) → cond a x (cond b y z) ≡ cond b y (cond a x z)
swapped true true x y z apart = absurd (apart refl refl)
swapped true false x y z apart = refl
swapped false b x y z apart = refl

eqb-same : (a b : ℕ) → eqb a b ≡ true → a ≡ b
eqb-same a b is = elim (cases_eq a b) [
  | inl same ↦ same
  | inr differ ↦ absurd (cc (ne_eqb a b differ, is))
]

-- what a line has after an insert at its place
lookup-insert : (xs : List Asked) (a : Asked) (at q : ℕ) → IsPlaceOf xs a.line at
    → lookup (eqb q) (map entry_of (insert xs at a)) ≡ cond (eqb q a.line) (Some a) (lookup (eqb q) (map entry_of xs))
lookup-insert [] a zero q is = refl
lookup-insert [] a (suc at) q is = absurd (omega (arith, is.within))
lookup-insert (x ∷ xs) a zero q is = refl
lookup-insert (x ∷ xs) a (suc at) q is =
    ap (cond (eqb q x.line) (Some x)) (lookup-insert xs a at q (further x xs a.line at is))
    ∙ swapped (eqb q x.line) (eqb q a.line) (Some x) (Some a) (lookup (eqb q) (map entry_of xs))
    (λ here there. let before : x.line < a.line = is.below 0 x (omega arith) in
    let same : q ≡ x.line = eqb-same q x.line here in
    let other : q ≡ a.line = eqb-same q a.line there in
    omega arith)

-- no line of a list that has only greater ones
absent : (xs : List Asked) (line : ℕ) → ((k : ℕ) (d : Asked) → k < length xs → line < (get_or xs k d).line) → lookup (eqb line) (map entry_of xs) ≡ None
absent [] line above = refl
absent (x ∷ xs) line above =
    let here : line < x.line = above 0 x (omega arith) in
    rw (ne_eqb line x.line (λ same. omega arith)) (absent xs line (λ k d lt. above (suc k) d (omega arith)))

ascending-above : (x : Asked) (xs : List Asked) → AllPairs ComesBefore (x ∷ xs) → (k : ℕ) (d : Asked) → k < length xs → x.line < (get_or xs k d).line
ascending-above x xs pairs k d lt = AllPairs-head ComesBefore x xs pairs k d lt

abbrev At : List Asked → ℕ → ℕ → Type 0
At xs line at = (d : Asked) → (get_or xs at d).line ≡ line

-- what a line has where there is a request of it at its place
pub lookup-at : (xs : List Asked) (line at : ℕ) (a : Asked) → IsPlaceOf xs line at → at < length xs → a ≡ get_or xs at a → a.line ≡ line
    → lookup (eqb line) (map entry_of xs) ≡ Some a
lookup-at [] line at a is lt stands own = absurd (omega arith)
lookup-at (x ∷ xs) line zero a is lt stands own =
    let same : a ≡ x = stands in
    rw (eq-eqb line x.line (sym own ∙ ap (λ (o : Asked). o.line) same)) (ap Some (sym same))
lookup-at (x ∷ xs) line (suc at) a is lt stands own =
    let before : x.line < line = is.below 0 x (omega arith) in
    rw (ne_eqb line x.line (λ same. omega arith)) (lookup-at xs line at a (further x xs line at is) (omega arith) stands own)

-- and where there is none
pub lookup-none : (xs : List Asked) (line at : ℕ) → AllPairs ComesBefore xs → IsPlaceOf xs line at → ((d : Asked) → at < length xs → (get_or xs at d).line ≢ line)
    → lookup (eqb line) (map entry_of xs) ≡ None
lookup-none [] line at pairs is other = refl
lookup-none (x ∷ xs) line zero pairs is other =
    let here : x.line ≢ line = other x (omega arith) in
    let le : line ≤ x.line = is.above 0 x (omega arith) (omega arith) in
    absent (x ∷ xs) line (λ k d lt. beyond k d lt)
  where
    beyond : (k : ℕ) (d : Asked) → k < suc (length xs) → line < (get_or (x ∷ xs) k d).line
    beyond zero d lt = let here : x.line ≢ line = other x (omega arith) in let le : line ≤ x.line = is.above 0 x (omega arith) (omega arith) in omega arith
    beyond (suc k) d lt =
        let le : line ≤ x.line = is.above 0 x (omega arith) (omega arith) in
        let after : x.line < (get_or xs k d).line = ascending-above x xs pairs k d (omega arith) in omega arith
lookup-none (x ∷ xs) line (suc at) pairs is other =
    let before : x.line < line = is.below 0 x (omega arith) in
    rw (ne_eqb line x.line (λ same. omega arith)) (lookup-none xs line at (AllPairs-tail ComesBefore x xs pairs) (further x xs line at is) (λ d lt. other d (omega arith)))

-- what a line has after the request at a place went
lookup-remove : (xs : List Asked) (line at q : ℕ) → AllPairs ComesBefore xs → IsPlaceOf xs line at → at < length xs → At xs line at
    → lookup (eqb q) (map entry_of (remove xs at)) ≡ cond (eqb line q) None (lookup (eqb q) (map entry_of xs))
lookup-remove [] line at q pairs is lt here = absurd (omega arith)
lookup-remove (x ∷ xs) line zero q pairs is lt here = elim (cases_eq line q) [
  | inl same ↦
      let own : x.line ≡ line = here x in
      rw (eq-eqb line q same) (subst (λ l. lookup (eqb l) (map entry_of xs) ≡ None) (own ∙ same) (absent xs x.line (λ k d less. ascending-above x xs pairs k d less)))
  | inr differ ↦
      let own : x.line ≡ line = here x in
      rw (ne_eqb line q differ, ne_eqb q x.line (λ same. differ (sym own ∙ sym same))) refl
]
lookup-remove (x ∷ xs) line (suc at) q pairs is lt here =
    let before : x.line < line = is.below 0 x (omega arith) in
    ap (cond (eqb q x.line) (Some x)) (lookup-remove xs line at q (AllPairs-tail ComesBefore x xs pairs) (further x xs line at is) (omega arith) (λ d. here d))
    ∙ swapped (eqb q x.line) (eqb line q) (Some x) None (lookup (eqb q) (map entry_of xs))
    (λ this that. let same : q ≡ x.line = eqb-same q x.line this in let other : line ≡ q = eqb-same line q that in omega arith)

turned : (a b : ℕ) → eqb a b ≡ eqb b a
turned a b = elim (cases_eq a b) [
  | inl same ↦ eq-eqb a b same ∙ sym (eq-eqb b a (sym same))
  | inr apart ↦ ne_eqb a b apart ∙ sym (ne_eqb b a (λ same. apart (sym same)))
]

pub request-at : (xs : List Asked) (line at : ℕ) (a : Asked) → IsPlaceOf xs line at → at < length xs → a ≡ get_or xs at a → a.line ≡ line
    → finite.get (outstanding_of xs) line ≡ Some a
request-at xs line at a is lt stands own = get_entries (map entry_of xs) line ∙ lookup-at xs line at a is lt stands own

pub request-none : (xs : List Asked) (line at : ℕ) → AllPairs ComesBefore xs → IsPlaceOf xs line at → ((d : Asked) → at < length xs → (get_or xs at d).line ≢ line)
    → finite.get (outstanding_of xs) line ≡ None
request-none xs line at pairs is other = get_entries (map entry_of xs) line ∙ lookup-none xs line at pairs is other

pub outstanding-insert : (xs : List Asked) (a : Asked) (at : ℕ) → IsPlaceOf xs a.line at → outstanding_of (insert xs at a) ≡ finite.insert (outstanding_of xs) a.line a
outstanding-insert xs a at is =
    inserted (map entry_of xs) (map entry_of (insert xs at a)) a.line a
    (λ q. lookup-insert xs a at q is ∙ ap (λ b. cond b (Some a) (lookup (eqb q) (map entry_of xs))) (turned q a.line))

pub outstanding-remove : (xs : List Asked) (line at : ℕ) → AllPairs ComesBefore xs → IsPlaceOf xs line at → at < length xs → At xs line at
    → outstanding_of (remove xs at) ≡ finite.remove (outstanding_of xs) line
outstanding-remove xs line at pairs is lt here =
    removed (map entry_of xs) (map entry_of (remove xs at)) line (λ q. lookup-remove xs line at q pairs is lt here)

-- where a line has a request, that is at its place
pub at-place : (xs : List Asked) (line at : ℕ) → AllPairs ComesBefore xs → IsPlaceOf xs line at → IsSome (finite.get (outstanding_of xs) line)
    → (at < length xs) × At xs line at
at-place xs line at pairs is has = split (at-or-past at (length xs))
  where
    not_some : {o : Option Asked} → o ≡ None → IsSome o → ⊥
    not_some {o} none some = false≢true (subst IsSome none some)

    sample : (ys : List Asked) → at < length ys → Asked
    sample [] lt = absurd (omega arith)
    sample (y ∷ ys) lt = y

    at-or-past : (i j : ℕ) → (i < j) ⊎ (j ≤ i)
    at-or-past i j = grind arith

    none-else : ((d : Asked) → at < length xs → (get_or xs at d).line ≢ line) → ⊥
    none-else other = not_some (request-none xs line at pairs is other) has

    split : (at < length xs) ⊎ (length xs ≤ at) → (at < length xs) × At xs line at
    split (inr past) = absurd (none-else (λ d lt. absurd (omega arith)))
    split (inl lt) = let a : Asked = sample xs lt in elim (cases_eq (get_or xs at a).line line) [
      | inl same ↦ (lt, λ d. subst (λ (o : Asked). o.line ≡ line) (any_default xs at a d lt) same)
      | inr differ ↦ absurd (none-else (λ d less same. differ (subst (λ (o : Asked). o.line ≡ line) (any_default xs at d a lt) same)))
    ]

-- the place at which a search ends
pub place-found : (xs : List Asked) (line at : ℕ) (a : Asked) → AllPairs ComesBefore xs → at < length xs
    → ((k : ℕ) (d : Asked) → k < at → (get_or xs k d).line < line) → line ≤ (get_or xs at a).line → IsPlaceOf xs line at
place-found xs line at a pairs lt before le = record {
  within = omega arith;
  below = before;
  above = λ k d from within. ⊎_elim
      (λ beyond. let first : line ≤ (get_or xs at d).line = subst (λ (o : Asked). line ≤ o.line) (any_default xs at a d lt) le in
      let later : (get_or xs at d).line < (get_or xs k d).line = pairs at k d beyond within in omega arith)
      (λ same. subst (λ i. line ≤ (get_or xs i d).line) same (subst (λ (o : Asked). line ≤ o.line) (any_default xs at a d lt) le))
      (beyond-or-at at k from);
}
  where
    beyond-or-at : (i k : ℕ) → i ≤ k → (i < k) ⊎ (i ≡ k)
    beyond-or-at i k le = grind arith

All-put : {X : Type 0} (P : X → Type 0) (m : X) → P m → (xs : List X) (at : ℕ) → All P xs → All P (insert xs at m)
All-put P m here [] zero all = All-cons P m [] here all
All-put P m here [] (suc at) all = All-cons P m [] here all
All-put P m here (x ∷ xs) zero all = All-cons P m (x ∷ xs) here all
All-put P m here (x ∷ xs) (suc at) all = All-cons P x (insert xs at m) (All-head P x xs all) (All-put P m here xs at (All-tail P x xs all))

All-without : {X : Type 0} (P : X → Type 0) (xs : List X) (at : ℕ) → All P xs → All P (remove xs at)
All-without P [] zero all = all
All-without P [] (suc at) all = all
All-without P (x ∷ xs) zero all = All-tail P x xs all
All-without P (x ∷ xs) (suc at) all = All-cons P x (remove xs at) (All-head P x xs all) (All-without P xs at (All-tail P x xs all))

abbrev OtherAt : List Asked → ℕ → ℕ → Type 0
OtherAt xs line at = (d : Asked) → at < length xs → (get_or xs at d).line ≢ line

ascend-put : (xs : List Asked) (a : Asked) (at : ℕ) → AllPairs ComesBefore xs → IsPlaceOf xs a.line at → OtherAt xs a.line at → AllPairs ComesBefore (insert xs at a)
ascend-put [] a zero pairs is other = AllPairs-cons ComesBefore a [] (λ k d lt. absurd (omega arith)) pairs
ascend-put [] a (suc at) pairs is other = AllPairs-cons ComesBefore a [] (λ k d lt. absurd (omega arith)) pairs
ascend-put (x ∷ xs) a zero pairs is other =
    let differ : x.line ≢ a.line = other x (omega arith) in
    let le : a.line ≤ x.line = is.above 0 x (omega arith) (omega arith) in
    let first : a.line < x.line = grind (arith, differ, le) in
    AllPairs-cons ComesBefore a (x ∷ xs)
    (All-cons (ComesBefore a) x xs first (λ k d lt. let later : x.line < (get_or xs k d).line = ascending-above x xs pairs k d lt in omega arith))
    pairs
ascend-put (x ∷ xs) a (suc at) pairs is other =
    let before : x.line < a.line = is.below 0 x (omega arith) in
    AllPairs-cons ComesBefore x (insert xs at a)
    (All-put (ComesBefore x) a before xs at (AllPairs-head ComesBefore x xs pairs))
    (ascend-put xs a at (AllPairs-tail ComesBefore x xs pairs) (further x xs a.line at is) (λ d lt. other d (omega arith)))

other-at : (xs : List Asked) (line at : ℕ) → IsPlaceOf xs line at → finite.get (outstanding_of xs) line ≡ None → OtherAt xs line at
other-at xs line at is none = λ d lt same.
    let found : finite.get (outstanding_of xs) line ≡ Some (get_or xs at d) = request-at xs line at (get_or xs at d) is lt (any_default xs at d (get_or xs at d) lt) same in
    cc (none, found)

-- requests stay in order with one more of a line that has none
pub requests-with : (xs : List Asked) (a : Asked) (at : ℕ) → AreRequests xs → IsRequest a → IsPlaceOf xs a.line at → finite.get (outstanding_of xs) a.line ≡ None → AreRequests (insert xs at a)
requests-with xs a at are is place none = record {
  ascend = ascend-put xs a at are.ascend place (other-at xs a.line at place none);
  each = All-put IsRequest a is xs at are.each;
}

pub requests-without : (xs : List Asked) (at : ℕ) → at < length xs → AreRequests xs → AreRequests (remove xs at)
requests-without xs at lt are = record {
  ascend = all_pairs_remove ComesBefore xs at lt are.ascend;
  each = All-without IsRequest xs at are.each;
}

-- the first request of a line
pub request-first : (xs : List Asked) (line at : ℕ) (d : Asked) → at < length xs → ((k : ℕ) (e : Asked) → k < at → (get_or xs k e).line ≢ line) → (get_or xs at d).line ≡ line
    → Some (get_or xs at d) ≡ finite.get (outstanding_of xs) line
request-first xs line at d lt before own = sym (get_entries (map entry_of xs) line ∙ look xs at lt before own)
  where
    look : (ys : List Asked) (i : ℕ) → i < length ys → ((k : ℕ) (e : Asked) → k < i → (get_or ys k e).line ≢ line) → (get_or ys i d).line ≡ line
        → lookup (eqb line) (map entry_of ys) ≡ Some (get_or ys i d)
    look [] i lt before own = absurd (omega arith)
    look (y ∷ ys) zero lt before own = rw (eq-eqb line y.line (sym own)) refl
    look (y ∷ ys) (suc i) lt before own =
        let differ : y.line ≢ line = before 0 y (omega arith) in
        rw (ne_eqb line y.line (λ same. differ (sym same))) (look ys i (omega arith) (λ k e less. before (suc k) e (omega arith)) own)

pub request-nowhere : (xs : List Asked) (line : ℕ) → ((k : ℕ) (e : Asked) → k < length xs → (get_or xs k e).line ≢ line) → None ≡ finite.get (outstanding_of xs) line
request-nowhere xs line none = sym (get_entries (map entry_of xs) line ∙ look xs none)
  where
    look : (ys : List Asked) → ((k : ℕ) (e : Asked) → k < length ys → (get_or ys k e).line ≢ line) → lookup (eqb line) (map entry_of ys) ≡ None
    look [] none = refl
    look (y ∷ ys) none =
        let differ : y.line ≢ line = none 0 y (omega arith) in
        rw (ne_eqb line y.line (λ same. differ (sym same))) (look ys (λ k e less. none (suc k) e (omega arith)))

-- the request that is taken out
pub request-taken : (xs : List Asked) (line at : ℕ) (a : Asked) → IsPlaceOf xs line at → at < length xs → At xs line at → a ≡ get_or xs at a → finite.get (outstanding_of xs) line ≡ Some a
request-taken xs line at a is lt here same = request-at xs line at a is lt same (subst (λ (o : Asked). o.line ≡ line) (sym same) (here a))
