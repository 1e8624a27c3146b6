-- Where no transitions share a pair, a machine has the pairs of each of them.
use Rattle.std.proofs.Common.{◌≡◌, ℕ, zero, suc, ◌+◌, ◌*◌, ◌<◌, ◌≤◌, ◌==◌, Bool, true, false, cond, ◌||◌, ◌&&◌, Option, None, Some, List, [], ◌∷◌, ◌++◌, All, find, fold, length, length-append, map, position, refl, sym, ap, ◌∙◌, arith}
use Rattle.std.specs.List.{cons_option, list_any, sum_by}
use Rattle.std.proofs.Math.Nat.{add-mul, mul-add}
use Rattle.std.proofs.lemmas.List.Elements.{All-cons, All-head, All-nil, All-tail}
use Rattle.std.proofs.lemmas.List.Folds.{fold-map, list_any-append}
use Rattle.std.proofs.lemmas.List.Quantifiers.{position-Some}
use Rattle.std.proofs.lemmas.List.Sums.{sum_by-cons, sum_by_push}
use Rattle.slicc_ast.specs.declared.tree.machine.Machine.{Machine}
use Rattle.slicc_ast.specs.declared.tree.machine.Transition.{Transition}
use Rattle.slicc_ast.specs.declared.tree.name.Name.{Name}
use Rattle.slicc_plan.specs.declared.row.Written.{Written}
use Rattle.slicc_plan.specs.Counts.{events_answered}
use Rattle.slicc_plan.specs.Machines.{is_for, names_in, row_of, rows_from}
use Rattle.slicc_plan.specs.Prelude.{Declaration, event_members, includes, is_named, is_written, number_among, numbers_among, numbers_below, pairs_of, transition_pairs, share_pair, shared_after, shared_pairs_in, state_members, transition_symbol, transitions_of, with_number, written, written_of}
use Rattle.slicc_plan.specs.TwoTransitions.{told_with}
use Rattle.slicc_plan.proofs.Room.{right_none}
use Rattle.slicc_plan.proofs.TwoTransitions.{unshared, written_before}

abbrev one : Bool → ℕ
one b = cond b 1 0

-- Sums over all numbers below one.

abbrev total : (ℕ → ℕ) → ℕ → ℕ
total f zero = 0
total f (suc n) = total f n + f n

sum_below : (f : ℕ → ℕ) (n : ℕ) → sum_by f (numbers_below n) ≡ total f n
sum_below f zero = refl
sum_below f (suc n) = sum_by_push f (numbers_below n) n ∙ ap (λ k. k + f n) (sum_below f n)

total_same : (f g : ℕ → ℕ) → ((k : ℕ) → f k ≡ g k) → (n : ℕ) → total f n ≡ total g n
total_same f g same zero = refl
total_same f g same (suc n) = let here = same n in let rest = total_same f g same n in omega arith

total_none : (n : ℕ) → total (λ k. 0) n ≡ 0
total_none zero = refl
total_none (suc n) = let rest = total_none n in omega arith

total_plus : (f g : ℕ → ℕ) (n : ℕ) → total (λ k. f k + g k) n ≡ total f n + total g n
total_plus f g zero = refl
total_plus f g (suc n) = let rest = total_plus f g n in omega arith

total_times : (a : ℕ) (f : ℕ → ℕ) (n : ℕ) → total (λ k. a * f k) n ≡ a * total f n
total_times a f zero = omega arith
total_times a f (suc n) = ap (λ k. k + a * f n) (total_times a f n) ∙ sym (mul-add a (total f n) (f n))

total_timed : (f : ℕ → ℕ) (a n : ℕ) → total (λ k. f k * a) n ≡ total f n * a
total_timed f a zero = omega arith
total_timed f a (suc n) = ap (λ k. k + f n * a) (total_timed f a n) ∙ sym (add-mul (total f n) (f n) a)

-- A list of numbers below one, each kept once, has as many as there are numbers that it includes.

none_at : (x n : ℕ) → n ≤ x → total (λ k. one (x == k)) n ≡ 0
none_at x zero above = refl
none_at x (suc n) above =
    let rest = none_at x n (omega arith) in
    let other : (x == n) ≡ false = grind arith in
    let here : one (x == n) ≡ 0 = ap one other in omega arith

one_at : (x n : ℕ) → x < n → total (λ k. one (x == k)) n ≡ 1
one_at x zero below = absurd (omega arith)
one_at x (suc n) below = by (λ less. one_at x n less) (x == n) refl
  where
    by : (x < n → total (λ k. one (x == k)) n ≡ 1) → (b : Bool) → b ≡ (x == n) → total (λ k. one (x == k)) n + one b ≡ 1
    by before true is =
        let same : x ≡ n = grind arith in
        let rest = none_at x n (omega (arith, same)) in omega arith
    by before false is =
        let less : x < n = grind arith in
        let rest = before less in omega arith

or_false : (b : Bool) → one (b || false) ≡ one b + 0
or_false true = refl
or_false false = refl

one_more : (kept : List ℕ) (x k : ℕ) → includes kept x ≡ false → one (includes (kept ++ x ∷ []) k) ≡ one (includes kept k) + one (x == k)
one_more kept x k fresh = ap one (list_any-append (λ j. j == k) kept (x ∷ [])) ∙ by (x == k) refl
  where
    by : (b : Bool) → b ≡ (x == k) → one (includes kept k || (b || false)) ≡ one (includes kept k) + one b
    by true is =
        let same : x ≡ k = grind arith in
        let other : includes kept k ≡ false = ap (includes kept) (sym same) ∙ fresh in
        rw other refl
    by false is = or_false (includes kept k)

abbrev HasEach : ℕ → List ℕ → Type 0
HasEach n numbers = total (λ k. one (includes numbers k)) n ≡ length numbers

has_each : (n : ℕ) (kept numbers : List ℕ) → HasEach n kept → All (λ k. k < n) numbers → HasEach n (fold with_number kept numbers)
has_each n kept [] has below = has
has_each n kept (x ∷ xs) has below =
    has_each n (with_number kept x) xs (by (includes kept x) refl) (All-tail (λ k. k < n) x xs below)
  where
    by : (b : Bool) → includes kept x ≡ b → HasEach n (cond b kept (kept ++ x ∷ []))
    by true is = has
    by false is =
        let split = total_same (λ k. one (includes (kept ++ x ∷ []) k)) (λ k. one (includes kept k) + one (x == k)) (λ k. one_more kept x k is) n in
        let parts = total_plus (λ k. one (includes kept k)) (λ k. one (x == k)) n in
        let here = one_at x n (All-head (λ k. k < n) x xs below) in
        let long = length-append kept (x ∷ []) in
        omega (arith, split, parts, here, long, has)

-- the numbers of names among declarations are below how many these are
pub positions_below : (ds : List Declaration) (ns : List Name) → All (λ k. k < length ds) (numbers_among ds ns)
positions_below ds [] = All-nil (λ k. k < length ds)
positions_below ds (n ∷ ns) = by (positions_below ds ns) (number_among ds n) refl
  where
    below : (ds : List Declaration) (i : ℕ) → position (is_named n.text) ds ≡ Some i → i < length ds
    below [] i e = cc
    below (d ∷ ds) i e = (position-Some (is_named n.text) (d ∷ ds) i d e).0

    by : All (λ k. k < length ds) (numbers_among ds ns) → (o : Option ℕ) → o ≡ number_among ds n → All (λ k. k < length ds) (cons_option o (numbers_among ds ns))
    by more None e = more
    by more (Some i) e = All-cons (λ k. k < length ds) i (numbers_among ds ns) (below ds i (sym e)) more

-- A transition has each of its states and each of its events once.

record HasEachOnce (all_states all_events : ℕ) (t : Written) : Type 0 where
  states : HasEach all_states t.states
  events : HasEach all_events t.events

none_each : (n : ℕ) → HasEach n []
none_each n = total_none n

written_once : (m : Machine) (ts : List Transition) → All (HasEachOnce (length (state_members m)) (length (event_members m))) (map (written m) ts)
written_once m [] = All-nil (HasEachOnce (length (state_members m)) (length (event_members m)))
written_once m (t ∷ ts) =
    let states = length (state_members m) in
    let events = length (event_members m) in
    let from = numbers_among (state_members m) (names_in t.states) in
    let on = numbers_among (event_members m) (names_in t.events) in
    All-cons (HasEachOnce states events) (written m t) (map (written m) ts)
    (record {
      states = has_each states [] from (none_each states) (positions_below (state_members m) (names_in t.states));
      events = has_each events [] on (none_each events) (positions_below (event_members m) (names_in t.events));
    })
    (written_once m ts)

-- Pairs.

module _ (states events : ℕ) where
  abbrev over_pairs : (ℕ → ℕ → ℕ) → ℕ
  over_pairs f = total (λ s. total (f s) events) states

  over_same : (f g : ℕ → ℕ → ℕ) → ((s e : ℕ) → f s e ≡ g s e) → over_pairs f ≡ over_pairs g
  over_same f g same =
      total_same (λ s. total (f s) events) (λ s. total (g s) events) (λ s. total_same (f s) (g s) (same s) events) states

  over_plus : (f g : ℕ → ℕ → ℕ) → over_pairs (λ s e. f s e + g s e) ≡ over_pairs f + over_pairs g
  over_plus f g =
      total_same (λ s. total (λ e. f s e + g s e) events) (λ s. total (f s) events + total (g s) events) (λ s. total_plus (f s) (g s) events) states
      ∙ total_plus (λ s. total (f s) events) (λ s. total (g s) events) states

  over_none : over_pairs (λ s e. 0) ≡ 0
  over_none = total_same (λ s. total (λ e. 0) events) (λ s. 0) (λ s. total_none events) states ∙ total_none states

  over_product : (f g : ℕ → ℕ) → over_pairs (λ s e. f s * g e) ≡ total f states * total g events
  over_product f g =
      total_same (λ s. total (λ e. f s * g e) events) (λ s. f s * total g events) (λ s. total_times (f s) g events) states
      ∙ total_timed f (total g events) states

  one_both : (a b : Bool) → one (a && b) ≡ one a * one b
  one_both true true = refl
  one_both true false = refl
  one_both false b = omega arith

  abbrev pairs_in : Written → ℕ
  pairs_in t = length t.states * length t.events

  of_one : (t : Written) → HasEachOnce states events t → over_pairs (λ s e. one (is_for s e t)) ≡ pairs_in t
  of_one t has =
      over_same (λ s e. one (is_for s e t)) (λ s e. one (includes t.states s) * one (includes t.events e)) (λ s e. one_both (includes t.states s) (includes t.events e))
      ∙ over_product (λ s. one (includes t.states s)) (λ e. one (includes t.events e))
      ∙ ap (λ k. k * total (λ e. one (includes t.events e)) events) has.states ∙ ap (λ k. length t.states * k) has.events

  -- how many of the transitions are written for a pair
  abbrev written_for : List Written → ℕ → ℕ → ℕ
  written_for [] s e = 0
  written_for (t ∷ ts) s e = one (is_for s e t) + written_for ts s e

  of_all : (ts : List Written) → All (HasEachOnce states events) ts → over_pairs (written_for ts) ≡ sum_by pairs_in ts
  of_all [] has = over_none
  of_all (t ∷ ts) has =
      let here = of_one t (All-head (HasEachOnce states events) t ts has) in
      let rest = of_all ts (All-tail (HasEachOnce states events) t ts has) in
      let split = over_plus (λ s e. one (is_for s e t)) (written_for ts) in
      let sum = sum_by-cons pairs_in t ts in
      omega (arith, here, rest, split, sum)

  none_written : (s e : ℕ) (ts : List Written) → list_any (is_for s e) ts ≡ false → written_for ts s e ≡ 0
  none_written s e [] none = refl
  none_written s e (t ∷ ts) none = by (none_written s e ts) (is_for s e t) none
    where
      by : (list_any (is_for s e) ts ≡ false → written_for ts s e ≡ 0) → (b : Bool) → (b || list_any (is_for s e) ts) ≡ false → one b + written_for ts s e ≡ 0
      by rest true none = absurd (cc none)
      by rest false none = let later = rest none in omega arith

  one_written : (number n : ℕ) (before ts : List Written) (s e : ℕ) → shared_after number before ts ≡ [] → one (is_written (rows_from s e n ts)) ≡ written_for ts s e
  one_written number n before [] s e none = refl
  one_written number n before (t ∷ ts) s e none =
      let later = right_none (told_with number t (find (share_pair t) before)) (shared_after number (before ++ t ∷ []) ts) none in
      by (is_for s e t) refl (one_written number (n + 1) (before ++ t ∷ []) ts s e later) later
    where
      by : (b : Bool) → is_for s e t ≡ b → one (is_written (rows_from s e (n + 1) ts)) ≡ written_for ts s e → shared_after number (before ++ t ∷ []) ts ≡ []
          → one (is_written (cond b (row_of s e n t ∷ []) [] ++ rows_from s e (n + 1) ts)) ≡ one b + written_for ts s e
      by true is rest later =
          let none = none_written s e ts (unshared number (before ++ t ∷ []) ts s e later (written_before before t s e is)) in
          ap (λ k. 1 + k) (sym none)
      by false is rest later = let same : one (is_written (rows_from s e (n + 1) ts)) ≡ written_for ts s e = rest in omega arith

pub pairs_of_each : (number : ℕ) (m : Machine) → shared_pairs_in number m ≡ [] → pairs_of m ≡ sum_by transition_pairs (map transition_symbol (written_of m))
pairs_of_each number m none =
    let states = length (state_members m) in
    let events = length (event_members m) in
    let ts = written_of m in
    sum_below (events_answered m) states
    ∙ total_same (events_answered m) (λ s. total (written_for states events ts s) events)
    (λ s. sum_below (λ e. one (is_written (rows_from s e 0 ts))) events
    ∙ total_same (λ e. one (is_written (rows_from s e 0 ts))) (written_for states events ts s) (λ e. one_written states events number 0 [] ts s e none) events) states
    ∙ of_all states events ts (written_once m (transitions_of m))
    ∙ sym (fold-map (λ a t. a + transition_pairs t) transition_symbol 0 ts)
