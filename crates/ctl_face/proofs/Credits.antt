-- Slots in use and credits are counted by receiver and buffer, in whatever order credits come.
use Rattle.std.proofs.Common.{◌≡◌, ℕ, ◌+◌, ◌-◌, ◌≤◌, Bool, true, false, cond, eqb, not, List, [], ◌∷◌, ◌++◌, map, length, refl, sym, ap, subst, ◌∙◌, arith, append_assoc, Option, None, Some, unwrap_or}
use Rattle.std.proofs.lemmas.Bool.{and_parts, cond_both, eqb-true, or_parts}
use Rattle.std.proofs.lemmas.Bool.Decides.{nat_tests}
use Rattle.std.proofs.lemmas.List.{append-nil}
use Rattle.std.proofs.lemmas.List.Elements.{filter-append, filter_agree}
use Rattle.std.proofs.lemmas.List.Filters.{length-filter_both, sum_by-filter_both}
use Rattle.std.proofs.lemmas.List.Sums.{length-filter, sum_by-append, sum_by-cons}
use Rattle.std.specs.Bool.{nat_le, nat_lt}
use Rattle.std.specs.List.{filter, find, list_any}
use Rattle.std.specs.Option.{option_map}
use Rattle.std.specs.Prelude.{◌&&◌, ◌||◌}
use Rattle.ctl_face.specs.declared.parcel.Credit.{Credit}
use Rattle.ctl_face.specs.declared.parcel.Lent.{Lent}
use Rattle.ctl_face.specs.Prelude.{arrived_credits, credit_before, credits_from, free_slots, is_credit_of, is_lent_of, lent_at, lent_from, one_more, settled, with_credit, with_lent}

abbrev count_of : Option Lent → ℕ
count_of o = unwrap_or (option_map (λ (l : Lent). l.count) o) 0

-- A slot more at a buffer of a receiver, seen from the same or another buffer `q` of a receiver `p`.
module _ (receiver buffer p q : ℕ) where
  abbrev mine : Lent → Bool
  mine = is_lent_of receiver buffer

  abbrev seen : Lent → Bool
  seen = is_lent_of p q

  abbrev same : Bool
  same = eqb receiver p && eqb buffer q

  abbrev raised : Lent → Lent
  raised = one_more receiver buffer

  seen_mine : (l : Lent) → mine l ≡ true → seen l ≡ same
  seen_mine l is = grind (arith, nat_tests, is)

  seen_other : (l : Lent) → mine l ≡ false → seen l ≡ true → same ≡ false
  seen_other l is there = grind (arith, nat_tests, is, there)

  raised_apart : same ≡ false → (lent : List Lent) → lent_at (map raised lent) p q ≡ lent_at lent p q
  raised_apart other [] = refl
  raised_apart other (l ∷ rest) =
      let more = record l { count = l.count + 1 } in
      elim (mine l) as (λ b. mine l ≡ b → count_of (cond (seen (cond b more l)) (Some (cond b more l)) (find seen (map raised rest))) ≡ count_of (cond (seen l) (Some l) (find seen rest))) [
        | true ↦ λ is. rw (seen_mine l is ∙ other) (raised_apart other rest)
        | false ↦ λ is. elim (seen l) as (λ b. count_of (cond b (Some l) (find seen (map raised rest))) ≡ count_of (cond b (Some l) (find seen rest))) [
          | true ↦ refl
          | false ↦ raised_apart other rest
        ]
      ] refl

  raised_same : same ≡ true → (lent : List Lent) → list_any mine lent ≡ true → lent_at (map raised lent) p q ≡ lent_at lent p q + 1
  raised_same is_same [] found = absurd (cc found)
  raised_same is_same (l ∷ rest) found =
      let more = record l { count = l.count + 1 } in
      elim (mine l) as (λ b. mine l ≡ b → (b || list_any mine rest) ≡ true → count_of (cond (seen (cond b more l)) (Some (cond b more l)) (find seen (map raised rest))) ≡ count_of (cond (seen l) (Some l) (find seen rest)) + 1) [
        | true ↦ λ is _. rw (seen_mine l is ∙ is_same) refl
        | false ↦ λ is later.
            elim (seen l) as (λ b. seen l ≡ b → count_of (cond b (Some l) (find seen (map raised rest))) ≡ count_of (cond b (Some l) (find seen rest)) + 1) [
              | true ↦ λ there. absurd (cc (is_same, seen_other l is there))
              | false ↦ λ there. raised_same is_same rest later
            ] refl
      ] refl found

  pushed : (lent : List Lent) → list_any mine lent ≡ false → lent_at (lent ++ record { receiver = receiver; buffer = buffer; count = 1 } ∷ []) p q ≡ lent_at lent p q + cond same 1 0
  pushed [] none =
      elim same as (λ b. count_of (cond b (Some (record { receiver = receiver; buffer = buffer; count = 1 })) None) ≡ 0 + cond b 1 0) [
        | true ↦ refl
        | false ↦ refl
      ]
  pushed (l ∷ rest) none =
      let one : Lent = record { receiver = receiver; buffer = buffer; count = 1 } in
      let parts = or_parts (mine l) (list_any mine rest) none in
      elim (seen l) as (λ b. seen l ≡ b → count_of (cond b (Some l) (find seen (rest ++ one ∷ []))) ≡ count_of (cond b (Some l) (find seen rest)) + cond same 1 0) [
        | true ↦ λ there. let other = seen_other l parts.0 there in rw other (omega arith)
        | false ↦ λ there. pushed rest parts.1
      ] refl

  counted : (lent : List Lent) → list_any mine lent ≡ true → lent_at (map raised lent) p q ≡ lent_at lent p q + cond same 1 0
  counted lent found =
      elim same as (λ b. same ≡ b → lent_at (map raised lent) p q ≡ lent_at lent p q + cond b 1 0) [
        | true ↦ λ is. raised_same is lent found
        | false ↦ λ is. raised_apart is lent ∙ (omega arith)
      ] refl

pub lent_counted : (lent : List Lent) (receiver buffer p q : ℕ) → lent_at (with_lent lent receiver buffer) p q ≡ lent_at lent p q + cond (eqb receiver p && eqb buffer q) 1 0
lent_counted lent receiver buffer p q =
    cond_both (list_any (is_lent_of receiver buffer) lent) (map (one_more receiver buffer) lent) (lent ++ record { receiver = receiver; buffer = buffer; count = 1 } ∷ [])
    (λ (ls : List Lent). lent_at ls p q ≡ lent_at lent p q + cond (eqb receiver p && eqb buffer q) 1 0)
    (counted receiver buffer p q lent) (pushed receiver buffer p q lent)

abbrev arrived_by : (receiver buffer now : ℕ) → Credit → Bool
arrived_by receiver buffer now c = is_credit_of receiver buffer c && nat_le c.arrival now

pub credit_counted : (credits : List Credit) (c : Credit) (receiver buffer now : ℕ)
    → arrived_credits (with_credit credits c) receiver buffer now ≡ arrived_credits credits receiver buffer now + cond (is_credit_of receiver buffer c && nat_le c.arrival now) 1 0
credit_counted credits c receiver buffer now =
    let test : Credit → Bool = arrived_by receiver buffer now in
    let one : Credit → ℕ = λ x. cond (test x) 1 0 in
    let before = filter (λ (o : Credit). not (credit_before c o)) credits in
    let after = filter (λ (o : Credit). credit_before c o) credits in
    let all = length-filter test credits in
    let whole = length-filter test (before ++ c ∷ after) in
    let joined = sum_by-append one before (c ∷ after) in
    let middle = sum_by-cons one c after in
    let both = sum_by-filter_both (λ (o : Credit). credit_before c o) (λ (o : Credit). not (credit_before c o)) (λ o. refl) one credits in
    omega arith

module _ {X : Type 0} where
  filter_both : (f g : X → Bool) (xs : List X) → filter f (filter g xs) ≡ filter (λ x. f x && g x) xs
  filter_both f g [] = refl
  filter_both f g (x ∷ xs) =
      let rest = filter_both f g xs in
      let F = filter f (filter g xs) in
      let H = filter (λ y. f y && g y) xs in
      elim (g x) as (λ b. filter f (cond b (x ∷ filter g xs) (filter g xs)) ≡ cond (f x && b) (x ∷ H) H) [
        | true ↦ elim (f x) as (λ a. cond a (x ∷ F) F ≡ cond (a && true) (x ∷ H) H) [
          | true ↦ ap (λ ys. x ∷ ys) rest
          | false ↦ rest
        ]
        | false ↦ elim (f x) as (λ a. F ≡ cond (a && false) (x ∷ H) H) [
          | true ↦ rest
          | false ↦ rest
        ]
      ]

  filter_none : (f : X → Bool) → ((x : X) → f x ≡ false) → (xs : List X) → filter f xs ≡ []
  filter_none f none [] = refl
  filter_none f none (x ∷ xs) = rw (none x) (filter_none f none xs)

  -- a filter after another one, where both together are as a third one
  filter_as : (f g h : X → Bool) → ((x : X) → (f x && g x) ≡ h x) → (xs : List X) → filter f (filter g xs) ≡ filter h xs
  filter_as f g h agree xs = filter_both f g xs ∙ filter_agree (λ x. f x && g x) h agree xs

  filter_apart : (f g : X → Bool) → ((x : X) → (f x && g x) ≡ false) → (xs : List X) → filter f (filter g xs) ≡ []
  filter_apart f g apart xs = filter_both f g xs ∙ filter_none (λ x. f x && g x) apart xs

and_swap : (a b : Bool) → (a && b) ≡ (b && a)
and_swap true true = refl
and_swap true false = refl
and_swap false true = refl
and_swap false false = refl

before_trans : (a b x : Credit) → credit_before a b ≡ true → credit_before b x ≡ true → credit_before a x ≡ true
before_trans a b x first second = grind (arith, nat_tests, first, second)

before_back : (a b : Credit) → credit_before a b ≡ true → credit_before b a ≡ false
before_back a b first = grind (arith, nat_tests, first)

before_itself : (a b : Credit) → credit_before a b ≡ false → credit_before b a ≡ false → a ≡ b
before_itself a b first second =
    let arrival : a.arrival ≡ b.arrival = grind (arith, nat_tests, first, second) in
    let receiver : a.receiver ≡ b.receiver = grind (arith, nat_tests, first, second) in
    let buffer : a.buffer ≡ b.buffer = grind (arith, nat_tests, first, second) in
    λ i. record { receiver = receiver i; buffer = buffer i; arrival = arrival i }

-- of two tests of which the first implies the second
both_kept : (f g : Bool) → (f ≡ true → g ≡ true) → (f && g) ≡ f
both_kept true g implies = implies refl
both_kept false g implies = refl

both_dropped : (f g : Bool) → (f ≡ true → g ≡ true) → (not f && not g) ≡ not g
both_dropped true true implies = refl
both_dropped true false implies = absurd (cc (implies refl))
both_dropped false g implies = refl

none_between : (f g : Bool) → (f ≡ true → g ≡ true) → (f && not g) ≡ false
none_between true true implies = refl
none_between true false implies = absurd (cc (implies refl))
none_between false g implies = refl

module _ {X : Type 0} (f : X → Bool) (x : X) (xs : List X) where
  filter_keeps : f x ≡ true → filter f (x ∷ xs) ≡ x ∷ filter f xs
  filter_keeps is = ap (λ b. cond b (x ∷ filter f xs) (filter f xs)) is

  filter_drops : f x ≡ false → filter f (x ∷ xs) ≡ filter f xs
  filter_drops is = ap (λ b. cond b (x ∷ filter f xs) (filter f xs)) is

-- two credits of which the first comes before the second
module _ (a b : Credit) (before : credit_before a b ≡ true) (credits : List Credit) where
  abbrev after_a : Credit → Bool
  after_a o = credit_before a o

  abbrev after_b : Credit → Bool
  after_b o = credit_before b o

  abbrev not_a : Credit → Bool
  not_a o = not (credit_before a o)

  abbrev not_b : Credit → Bool
  not_b o = not (credit_before b o)

  abbrev between_them : List Credit
  between_them = filter not_b (filter after_a credits)

  implies : (x : Credit) → after_b x ≡ true → after_a x ≡ true
  implies x = before_trans a b x before

  first_rest : filter not_b (with_credit credits a) ≡ filter not_a credits ++ a ∷ between_them
  first_rest =
      filter-append not_b (filter not_a credits) (a ∷ filter after_a credits)
      ∙ ap (λ (cs : List Credit). cs ++ filter not_b (a ∷ filter after_a credits)) (filter_as not_b not_a not_a (λ x. both_dropped (after_b x) (after_a x) (implies x)) credits)
      ∙ ap (λ (cs : List Credit). filter not_a credits ++ cs) (filter_keeps not_b a (filter after_a credits) (ap not (before_back a b before)))

  first_after : filter after_b (with_credit credits a) ≡ filter after_b credits
  first_after =
      filter-append after_b (filter not_a credits) (a ∷ filter after_a credits)
      ∙ ap (λ (cs : List Credit). cs ++ filter after_b (a ∷ filter after_a credits)) (filter_apart after_b not_a (λ x. none_between (after_b x) (after_a x) (implies x)) credits)
      ∙ filter_drops after_b a (filter after_a credits) (before_back a b before)
      ∙ filter_as after_b after_a after_b (λ x. both_kept (after_b x) (after_a x) (implies x)) credits

  second_rest : filter not_a (with_credit credits b) ≡ filter not_a credits
  second_rest =
      filter-append not_a (filter not_b credits) (b ∷ filter after_b credits)
      ∙ ap (λ (cs : List Credit). cs ++ filter not_a (b ∷ filter after_b credits))
      (filter_as not_a not_b not_a (λ x. and_swap (not_a x) (not_b x) ∙ both_dropped (after_b x) (after_a x) (implies x)) credits)
      ∙ ap (λ (cs : List Credit). filter not_a credits ++ cs)
      (filter_drops not_a b (filter after_b credits) (ap not before)
      ∙ filter_apart not_a after_b (λ x. and_swap (not_a x) (after_b x) ∙ none_between (after_b x) (after_a x) (implies x)) credits)
      ∙ append-nil (filter not_a credits)

  second_after : filter after_a (with_credit credits b) ≡ between_them ++ b ∷ filter after_b credits
  second_after =
      filter-append after_a (filter not_b credits) (b ∷ filter after_b credits)
      ∙ ap (λ (cs : List Credit). cs ++ filter after_a (b ∷ filter after_b credits))
      (filter_as after_a not_b (λ x. not_b x && after_a x) (λ x. and_swap (after_a x) (not_b x)) credits ∙ sym (filter_both not_b after_a credits))
      ∙ ap (λ (cs : List Credit). between_them ++ cs)
      (filter_keeps after_a b (filter after_b credits) before
      ∙ ap (λ (cs : List Credit). b ∷ cs) (filter_as after_a after_b after_b (λ x. and_swap (after_a x) (after_b x) ∙ both_kept (after_b x) (after_a x) (implies x)) credits))

  either_first : with_credit (with_credit credits a) b ≡ with_credit (with_credit credits b) a
  either_first =
      ap (λ (cs : List Credit). cs ++ b ∷ filter after_b (with_credit credits a)) first_rest
      ∙ ap (λ (cs : List Credit). (filter not_a credits ++ a ∷ between_them) ++ b ∷ cs) first_after
      ∙ append_assoc (filter not_a credits) (a ∷ between_them) (b ∷ filter after_b credits)
      ∙ ap (λ (cs : List Credit). filter not_a credits ++ a ∷ cs) (sym second_after)
      ∙ ap (λ (cs : List Credit). cs ++ a ∷ filter after_a (with_credit credits b)) (sym second_rest)

pub credits_in_any_order : (credits : List Credit) (a b : Credit) → with_credit (with_credit credits a) b ≡ with_credit (with_credit credits b) a
credits_in_any_order credits a b =
    elim (credit_before a b) as (λ t. credit_before a b ≡ t → with_credit (with_credit credits a) b ≡ with_credit (with_credit credits b) a) [
      | true ↦ λ first. either_first a b first credits
      | false ↦ λ no_first.
          elim (credit_before b a) as (λ t. credit_before b a ≡ t → with_credit (with_credit credits a) b ≡ with_credit (with_credit credits b) a) [
            | true ↦ λ second. sym (either_first b a second credits)
            | false ↦ λ no_second. let same = before_itself a b no_first no_second in subst (λ (x : Credit). with_credit (with_credit credits a) x ≡ with_credit (with_credit credits x) a) same refl
          ] refl
    ] refl

-- what has arrived later has arrived now, or is kept and has arrived later
now_or_later : (receiver buffer now later : ℕ) → now ≤ later → (c : Credit) → (not (nat_lt now c.arrival) && arrived_by receiver buffer later c) ≡ arrived_by receiver buffer now c
now_or_later receiver buffer now later before c = grind (arith, nat_tests, before)

arrived_later : (credits : List Credit) (receiver buffer now later : ℕ) → now ≤ later
    → arrived_credits (credits_from now credits) receiver buffer later + arrived_credits credits receiver buffer now ≡ arrived_credits credits receiver buffer later
arrived_later credits receiver buffer now later before =
    let then = arrived_by receiver buffer later in
    let kept = λ (c : Credit). nat_lt now c.arrival in
    let gone = λ (c : Credit). not (nat_lt now c.arrival) in
    let all = length-filter_both kept gone (λ c. refl) (filter then credits) in
    let first = ap length (filter_both kept then credits ∙ filter_agree (λ c. kept c && then c) (λ c. then c && kept c) (λ c. and_swap (kept c) (then c)) credits ∙ sym (filter_both then kept credits)) in
    let second = ap length (filter_as gone then (arrived_by receiver buffer now) (now_or_later receiver buffer now later before) credits) in
    omega arith

settled_at : (credits : List Credit) (now receiver buffer : ℕ) (lent : List Lent) → lent_at (lent_from now credits lent) receiver buffer ≡ lent_at lent receiver buffer - arrived_credits credits receiver buffer now
settled_at credits now receiver buffer [] = omega arith
settled_at credits now receiver buffer (l ∷ rest) =
    let seen = is_lent_of receiver buffer in
    let after = settled credits now l in
    elim (seen l) as (λ b. seen l ≡ b
    → count_of (cond b (Some after) (find seen (map (settled credits now) rest))) ≡ count_of (cond b (Some l) (find seen rest)) - arrived_credits credits receiver buffer now) [
      | true ↦ λ is.
          let parts = and_parts (eqb l.receiver receiver) (eqb l.buffer buffer) is in
          ap (λ (r : ℕ). l.count - arrived_credits credits r l.buffer now) (eqb-true l.receiver receiver parts.0)
          ∙ ap (λ (q : ℕ). l.count - arrived_credits credits receiver q now) (eqb-true l.buffer buffer parts.1)
      | false ↦ λ is. settled_at credits now receiver buffer rest
    ] refl

pub settled_leaves_free : (lent : List Lent) (credits : List Credit) (size receiver buffer now later : ℕ) → now ≤ later → arrived_credits credits receiver buffer now ≤ lent_at lent receiver buffer
    → free_slots (lent_from now credits lent) (credits_from now credits) size receiver buffer later ≡ free_slots lent credits size receiver buffer later
settled_leaves_free lent credits size receiver buffer now later before enough =
    let arrived = arrived_later credits receiver buffer now later before in
    let in_use = settled_at credits now receiver buffer lent in
    omega arith
