-- Where numbers are marked from the last transition to the first, the first one's remain.
use Rattle.std.proofs.Common.{◌≡◌, ℕ, zero, suc, ◌+◌, ◌*◌, ◌-◌, ◌<◌, ◌≤◌, ◌/◌, ◌==◌, ◌≢◌, min, Bool, true, false, cond, not, ◌&&◌, ◌||◌, List, [], ◌∷◌, map, flat_map, length, get_or, take, drop, set, replicate, slice_index, slice_set, slice_index_or, All, refl, sym, ap, ◌∙◌, arith, subst, nat_eq, fold}
use Rattle.std.specs.List.{list_any, position_or_len}
use Rattle.std.proofs.lemmas.Grind.{common_steps}
use Rattle.std.proofs.lemmas.Nat.{div-mul-add, mul-add-lt}
use Rattle.std.proofs.Math.Nat.{mul_comm}
use Rattle.std.proofs.Math.Seq.{drop-cons}
use Rattle.std.proofs.lemmas.List.Elements.{All-append, All-map, All-nil, All-cons}
use Rattle.std.proofs.lemmas.List.{get_or-set_same, get_or-set_other}
use Rattle.slicc_plan.specs.declared.row.Written.{Written}
use Rattle.slicc_plan.specs.Machines.{is_for}
use Rattle.slicc_plan.specs.Prelude.{includes, share_pair}
use Rattle.pair_table.specs.Prelude.{IsAmong, first_at, is_at, least_at, marked, places_of}
use Rattle.pair_table.proofs.Lists.{any_congr, any_fixed, any_flat, any_mapped, any_with, first_in_front, first_of_either}

pub marked_length : (n : ℕ) (ps fs : List ℕ) → length (marked n ps fs) ≡ length fs
marked_length n [] fs = refl
marked_length n (p ∷ ps) fs = marked_length n ps (slice_set fs p n) ∙ grind (arith, common_steps)

one_marked : (fs : List ℕ) (p n c : ℕ) → c < length fs → slice_index (slice_set fs p n) c ≡ cond (p == c) n (slice_index fs c)
one_marked fs p n c below = grind (arith, common_steps)

pub marked_at : (n : ℕ) (ps fs : List ℕ) (c : ℕ) → c < length fs → slice_index (marked n ps fs) c ≡ cond (includes ps c) n (slice_index fs c)
marked_at n [] fs c below = refl
marked_at n (p ∷ ps) fs c below =
    let same : length (slice_set fs p n) ≡ length fs = grind (arith, common_steps) in
    marked_at n ps (slice_set fs p n) c (omega arith) ∙ by (p == c) (includes ps c) _ _ (one_marked fs p n c below)
  where
    by : (a b : Bool) (m o : ℕ) → m ≡ cond a n o → cond b n m ≡ cond (a || b) n o
    by true true m o e = refl
    by true false m o e = e
    by false true m o e = refl
    by false false m o e = e

-- what marking one more transition makes of the first numbers
pub first_marked : (events : ℕ) (w : Written) (ws : List Written) (k : ℕ) (fs : List ℕ) (c : ℕ) → c < length fs → slice_index fs c ≡ suc k + first_at events ws c → slice_index (marked k (places_of events w) fs) c ≡ k + first_at events (w ∷ ws) c
first_marked events w ws k fs c below e =
    marked_at k (places_of events w) fs c below ∙ by (is_at events c w) _ _ e
  where
    by : (a : Bool) (m n : ℕ) → m ≡ suc k + n → cond a k m ≡ k + cond (not a) (1 + n) 0
    by true m n e = omega arith
    by false m n e = omega arith

-- of the numbers at several places
pub least_first : (events : ℕ) (ws : List Written) (fs ps : List ℕ) (most : ℕ) → most ≤ length ws → All (λ c. slice_index fs c ≡ first_at events ws c) ps → least_at fs ps most ≡ min most (position_or_len (λ u. list_any (λ c. is_at events c u) ps) ws)
least_first events ws fs [] most le h = none ws most le
  where
    none : (ws : List Written) (most : ℕ) → most ≤ length ws → most ≡ min most (position_or_len (λ u. false) ws)
    none ws most le = let all = length_of_none ws in omega arith
      where
        length_of_none : (ws : List Written) → position_or_len (λ u. false) ws ≡ length ws
        length_of_none [] = refl
        length_of_none (w ∷ ws) = let more = length_of_none ws in omega arith
least_first events ws fs (c ∷ ps) most le h =
    let here : slice_index fs c ≡ first_at events ws c = h 0 c (omega arith) in
    let more = least_first events ws fs ps (min most (slice_index fs c)) (omega arith) (λ k d below. h (suc k) d (omega arith)) in
    let either = first_of_either (λ u. is_at events c u) (λ u. list_any (λ d. is_at events d u) ps) ws in
    omega arith

-- A place is that of one pair.

pub same_place : (n s e t f : ℕ) → e < n → f < n → (t * n + f == s * n + e) ≡ ((t == s) && (f == e))
same_place n s e t f below under = by (t * n + f == s * n + e) refl
  where
    by : (b : Bool) → b ≡ (t * n + f == s * n + e) → b ≡ ((t == s) && (f == e))
    by true h =
        let same : t * n + f ≡ s * n + e = grind arith in
        let states : t ≡ s = sym (div-mul-add t n f under) ∙ ap (λ m. m / n) same ∙ div-mul-add s n e below in
        let events : f ≡ e = omega (arith, ap (λ m. m * n) states) in
        grind arith
    by false h = grind arith

pub at_pair : (states events : ℕ) (w : Written) (s e : ℕ) → IsAmong states events w → e < events → is_at events (s * events + e) w ≡ is_for s e w
at_pair states events w s e among below =
    any_flat (λ c. c == s * events + e) (λ t. map (λ f. t * events + f) w.events) w.states
    ∙ any_congr _ _ w.states (λ k d under. one (slice_index_or w.states k d))
    ∙ any_with (includes w.events e) (λ t. t == s) w.states
  where
    one : (t : ℕ) → list_any (λ c. c == s * events + e) (map (λ f. t * events + f) w.events) ≡ ((t == s) && includes w.events e)
    one t =
        any_mapped (λ c. c == s * events + e) (λ f. t * events + f) w.events
        ∙ any_congr _ _ w.events (λ k d under. same_place events s e t (slice_index_or w.events k d) below (among.1 k d under))
        ∙ any_fixed (t == s) (λ f. f == e) w.events

-- transitions share a pair where the other one is at a place of this one
pub shared_place : (states events : ℕ) (t u : Written) → IsAmong states events t → IsAmong states events u → list_any (λ c. is_at events c u) (places_of events t) ≡ share_pair t u
shared_place states events t u among other =
    any_flat (λ c. is_at events c u) (λ s. map (λ e. s * events + e) t.events) t.states
    ∙ any_congr _ _ t.states (λ k d under. one (slice_index_or t.states k d))
  where
    one : (s : ℕ) → list_any (λ c. is_at events c u) (map (λ e. s * events + e) t.events) ≡ list_any (λ e. is_for s e u) t.events
    one s =
        any_mapped (λ c. is_at events c u) (λ e. s * events + e) t.events
        ∙ any_congr _ _ t.events (λ k d under. at_pair states events u s (slice_index_or t.events k d) other (among.1 k d under))

pub places_below : (states events : ℕ) (w : Written) → IsAmong states events w → All (λ c. c < states * events) (places_of events w)
places_below states events w among = each w.states among.0
  where
    below : ℕ → Type 0
    below c = c < states * events

    each : (ss : List ℕ) → All (λ s. s < states) ss → All below (flat_map (λ s. map (λ e. s * events + e) w.events) ss)
    each [] h = All-nil below
    each (s ∷ ss) h =
        All-append below (map (λ e. s * events + e) w.events) (flat_map (λ s. map (λ e. s * events + e) w.events) ss)
        (All-map below (λ e. s * events + e) w.events (λ k d under. rw (mul_comm states events) (mul-add-lt s events (slice_index_or w.events k d) states (h 0 s (omega arith)) (among.1 k d under))))
        (each ss (λ k d under. h (suc k) d (omega arith)))

-- one more transition, from the last on
pub first_step : (events k : ℕ) (w : Written) (ws : List Written) (fs : List ℕ) (c : ℕ) → k < length ws → slice_index_or ws k w ≡ w → c < length fs → slice_index fs c ≡ suc k + first_at events (drop (suc k) ws) c → slice_index (marked k (places_of events w) fs) c ≡ k + first_at events (drop k ws) c
first_step events k w ws fs c under is below e =
    let front : drop k ws ≡ w ∷ drop (suc k) ws = drop-cons ws k w under ∙ ap (λ v. v ∷ drop (suc k) ws) is in
    first_marked events w (drop (suc k) ws) k fs c below e ∙ ap (λ vs. k + first_at events vs c) (sym front)

pub first_down : (events n : ℕ) (w : Written) (ws : List Written) (fs : List ℕ) (c : ℕ) → 0 < n → n ≤ length ws → w ≡ slice_index_or ws (n - 1) w → c < length fs → slice_index fs c ≡ n + first_at events (drop n ws) c → slice_index (marked (n - 1) (places_of events w) fs) c ≡ n - 1 + first_at events (drop (n - 1) ws) c
first_down events n w ws fs c above le is below e =
    let same : n ≡ suc (n - 1) = omega arith in
    first_step events (n - 1) w ws fs c (omega arith) (sym is) below (subst (λ m. slice_index fs c ≡ m + first_at events (drop m ws) c) same e)

-- one of the transitions is among what all of them are among
pub among_at : (states events k : ℕ) (w : Written) (ws : List Written) → All (IsAmong states events) ws → k < length ws → w ≡ slice_index_or ws k w → IsAmong states events w
among_at states events k w ws all below is = subst (IsAmong states events) (sym is) (all k w below)
