-- Where no transitions share a pair, what is at a pair's place is the one row that is written for it.
use Rattle.std.proofs.Common.{◌≡◌, ℕ, zero, suc, ◌+◌, ◌*◌, ◌/◌, ◌%◌, ◌<◌, ◌≤◌, ◌==◌, Bool, true, false, cond, not, ◌||◌, ◌&&◌, None, Some, List, [], ◌∷◌, ◌++◌, All, find, length, slice_get, slice_index, slice_index_or, nat_lt, refl, sym, ap, subst, ◌∙◌, arith, add-zero, zero-add}
use Rattle.std.specs.List.{list_any, position_or_len}
use Rattle.std.specs.Option.{option_map}
use Rattle.std.proofs.lemmas.Nat.{div-mul-add, mod-mul-add, mul-add-lt}
use Rattle.std.proofs.Math.Nat.{mul_comm, mul-le-mul_right}
use Rattle.slicc_plan.specs.declared.row.Written.{Written}
use Rattle.slicc_plan.specs.Buffers.{listed}
use Rattle.slicc_plan.specs.Machines.{is_for, row_of, rows_from}
use Rattle.slicc_plan.specs.Prelude.{includes, share_pair, shared_after}
use Rattle.slicc_plan.specs.TwoTransitions.{told_with}
use Rattle.slicc_plan.proofs.TwoTransitions.{unshared, written_before}
use Rattle.pair_table.specs.Prelude.{IsAmong, first_at, is_at, row_at, rows_at, answer_at, inner}
use Rattle.pair_table.proofs.Lists.{first_congr}
use Rattle.pair_table.proofs.FirstPlaces.{at_pair}
use Rattle.pair_table.proofs.RowsOfPlaces.{rows_at-get}

module _ {X : Type 0} where
  any_none : (p : X → Bool) (xs : List X) → All (λ x. p x ≡ false) xs → list_any p xs ≡ false
  any_none p [] h = refl
  any_none p (x ∷ xs) h =
      let here : p x ≡ false = h 0 x (omega arith) in
      rw here (any_none p xs (λ k d below. h (suc k) d (omega arith)))

  both_empty : (xs ys : List X) → xs ++ ys ≡ [] → (xs ≡ []) × (ys ≡ [])
  both_empty [] ys h = (refl, h)
  both_empty (x ∷ xs) ys h = cc

  get_some : (xs : List X) (i : ℕ) (d : X) → i < length xs → slice_get xs i ≡ Some (slice_index_or xs i d)
  get_some [] i d below = absurd (none_below i below)
    where
      none_below : (i : ℕ) → i < 0 → ⊥
      none_below i h = omega arith
  get_some (x ∷ xs) zero d below = refl
  get_some (x ∷ xs) (suc i) d below = get_some xs i d (omega arith)

  get_none : (xs : List X) (i : ℕ) → length xs ≤ i → slice_get xs i ≡ None
  get_none [] i above = refl
  get_none (x ∷ xs) zero above = absurd (not_above (length xs) above)
    where
      not_above : (n : ℕ) → suc n ≤ 0 → ⊥
      not_above n h = omega arith
  get_none (x ∷ xs) (suc i) above = get_none xs i (omega arith)

rows_none : (s e n : ℕ) (ts : List Written) → list_any (is_for s e) ts ≡ false → rows_from s e n ts ≡ []
rows_none s e n [] h = refl
rows_none s e n (t ∷ ts) h = by (rows_none s e (n + 1) ts) (is_for s e t) h
  where
    by : (list_any (is_for s e) ts ≡ false → rows_from s e (n + 1) ts ≡ []) → (b : Bool) → (b || list_any (is_for s e) ts) ≡ false → cond b (row_of s e n t ∷ []) [] ++ rows_from s e (n + 1) ts ≡ []
    by more true h = cc
    by more false h = more h

one_row : (number : ℕ) (before ts : List Written) (s e n : ℕ) → shared_after number before ts ≡ [] → rows_from s e n ts ≡ listed (option_map (row_of s e (n + position_or_len (is_for s e) ts)) (slice_get ts (position_or_len (is_for s e) ts)))
one_row number before [] s e n h = refl
one_row number before (t ∷ ts) s e n h =
    let more = (both_empty (told_with number t (find (share_pair t) before)) (shared_after number (before ++ t ∷ []) ts) h).1 in
    by (one_row number (before ++ t ∷ []) ts s e (n + 1) more) (is_for s e t) refl more
  where
    onward : (p : ℕ) → listed (option_map (row_of s e (n + 1 + p)) (slice_get ts p)) ≡ listed (option_map (row_of s e (n + (1 + p))) (slice_get (t ∷ ts) (1 + p)))
    onward p =
        let step : 1 + p ≡ suc p = omega arith in
        let sum : n + 1 + p ≡ n + suc p = omega arith in
        ap (λ k. listed (option_map (row_of s e k) (slice_get ts p))) sum ∙ ap (λ k. listed (option_map (row_of s e (n + k)) (slice_get (t ∷ ts) k))) (sym step)

    by : rows_from s e (n + 1) ts ≡ listed (option_map (row_of s e (n + 1 + position_or_len (is_for s e) ts)) (slice_get ts (position_or_len (is_for s e) ts))) → (b : Bool) → b ≡ is_for s e t → shared_after number (before ++ t ∷ []) ts ≡ [] → cond b (row_of s e n t ∷ []) [] ++ rows_from s e (n + 1) ts ≡ listed (option_map (row_of s e (n + cond (not b) (1 + position_or_len (is_for s e) ts) 0)) (slice_get (t ∷ ts) (cond (not b) (1 + position_or_len (is_for s e) ts) 0)))
    by rest true is more =
        let none = rows_none s e (n + 1) ts (unshared number (before ++ t ∷ []) ts s e more (written_before before t s e (sym is))) in
        ap (λ rows. row_of s e n t ∷ rows) none ∙ ap (λ k. row_of s e k t ∷ []) (sym (add-zero n))
    by rest false is more = rest ∙ onward (position_or_len (is_for s e) ts)

not_in : (n j : ℕ) (ks : List ℕ) → All (λ k. k < n) ks → n ≤ j → includes ks j ≡ false
not_in n j ks all above = any_none (λ k. k == j) ks (λ i d below. apart (slice_index_or ks i d) (all i d below))
  where
    apart : (k : ℕ) → k < n → (k == j) ≡ false
    apart k below = grind arith

and_false : (a : Bool) → (a && false) ≡ false
and_false true = refl
and_false false = refl

-- what is at the place of a pair
pub row_in_table : (states events number : ℕ) (ws : List Written) (fs : List ℕ) → All (IsAmong states events) ws → length fs ≡ states * events → ((c : ℕ) → c < states * events → slice_index fs c ≡ first_at events ws c) → shared_after number [] ws ≡ [] → (s e : ℕ) → rows_from s e 0 ws ≡ listed (answer_at events (rows_at ws events 0 fs) s e)
row_in_table states events number ws fs all len firsts unshared s e = by (nat_lt e events) refl (nat_lt s states) refl
  where
    beyond_events : events ≤ e → All (λ w. is_for s e w ≡ false) ws
    beyond_events above = λ k d under. let w = slice_index_or ws k d in
        ap (λ b. includes w.states s && b) (not_in events e w.events (all k d under).1 above) ∙ and_false (includes w.states s)

    beyond_states : states ≤ s → All (λ w. is_for s e w ≡ false) ws
    beyond_states above = λ k d under. let w = slice_index_or ws k d in
        ap (λ b. b && includes w.events e) (not_in states s w.states (all k d under).0 above)

    found : s < states → e < events → inner (slice_get (rows_at ws events 0 fs) (s * events + e)) ≡ option_map (row_of s e (position_or_len (is_for s e) ws)) (slice_get ws (position_or_len (is_for s e) ws))
    found below under =
        let place : s * events + e < states * events = rw (mul_comm states events) (mul-add-lt s events e states below under) in
        let state : (0 + (s * events + e)) / events ≡ s = ap (λ c. c / events) (zero-add (s * events + e)) ∙ div-mul-add s events e under in
        let event : (0 + (s * events + e)) % events ≡ e = ap (λ c. c % events) (zero-add (s * events + e)) ∙ mod-mul-add s events e under in
        let first : slice_get fs (s * events + e) ≡ Some (first_at events ws (s * events + e)) =
        get_some fs (s * events + e) 0 (subst (λ n. s * events + e < n) (sym len) place) ∙ ap (λ k. Some k) (firsts (s * events + e) place) in
        let same : first_at events ws (s * events + e) ≡ position_or_len (is_for s e) ws =
        first_congr (is_at events (s * events + e)) (is_for s e) ws (λ k d inside. at_pair states events (slice_index_or ws k d) s e (all k d inside) under) in
        ap inner (rows_at-get ws events 0 fs (s * events + e))
        ∙ ap (λ o. inner (option_map (row_at ws ((0 + (s * events + e)) / events) ((0 + (s * events + e)) % events)) o)) first
        ∙ (λ i. row_at ws (state i) (event i) (same i))

    by : (b : Bool) → b ≡ nat_lt e events → (d : Bool) → d ≡ nat_lt s states → rows_from s e 0 ws ≡ listed (cond b (inner (slice_get (rows_at ws events 0 fs) (s * events + e))) None)
    by false is d at =
        let above : events ≤ e = grind arith in
        rows_none s e 0 ws (any_none (is_for s e) ws (beyond_events above))
    by true is false at =
        let above : states ≤ s = grind arith in
        let most : states * events ≤ s * events = mul-le-mul_right events above in
        let place : length fs ≤ s * events + e = omega arith in
        rows_none s e 0 ws (any_none (is_for s e) ws (beyond_states above))
        ∙ ap (λ o. listed (inner o)) (sym (rows_at-get ws events 0 fs (s * events + e) ∙ ap (option_map (row_at ws ((0 + (s * events + e)) / events) ((0 + (s * events + e)) % events))) (get_none fs (s * events + e) place)))
    by true is true at =
        let below : s < states = grind arith in
        let under : e < events = grind arith in
        one_row number [] ws s e 0 unshared
        ∙ ap (λ k. listed (option_map (row_of s e k) (slice_get ws (position_or_len (is_for s e) ws)))) (zero-add (position_or_len (is_for s e) ws))
        ∙ ap listed (sym (found below under))
