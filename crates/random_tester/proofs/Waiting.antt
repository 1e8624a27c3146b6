-- Looking at a seat's requests one after another, by line, finds the first that has waited too long.
use Rattle.std.proofs.Common.{◌≡◌, ℕ, zero, suc, ◌-◌, ◌<◌, ◌≤◌, Bool, true, false, cond, Option, Some, None, List, [], ◌∷◌, ◌++◌, length, map, drop, refl, sym, ap, subst, ◌∙◌, arith}
use Rattle.std.proofs.lemmas.Bool.Decides.{nat_tests}
use Rattle.std.proofs.lemmas.List.Elements.{All-head, All-tail}
use Rattle.std.specs.Bool.{nat_le, nat_lt}
use Rattle.std.specs.List.{All, AllPairs, filter, slice_get}
use Rattle.std.specs.Option.{option_and_then, option_map}
use Rattle.ruby_value.specs.declared.asked.Asked.{Asked}
use Rattle.ruby_value.specs.declared.fault.Finding.{Finding}
use Rattle.ruby_value.specs.declared.fault.Finding.TheVariants.{Deadlock}
use Rattle.ruby_value.proofs.Ordered.{AllPairs-head, AllPairs-nil, AllPairs-tail}
use Rattle.sequencer.specs.Prelude.{ComesBefore, is_above, next_after, FitsSeat, Seat, controller_at, next_at, requests_at}
use Rattle.ruby_value.specs.Prelude.{Requests, first_of}
use Rattle.sequencer.proofs.FitsByLine.{by_line-fits}
use Rattle.random_tester.specs.Prelude.{drop-all, late, late_at, outstanding_of}

abbrev pub has_waited : ℕ → ℕ → Asked → Bool
has_waited deadlock now a = nat_le deadlock (now - a.issued)

abbrev pub asked_at : List Seat → ℕ → List Asked
asked_at seats k = outstanding_of (requests_at seats k)

abbrev pub above : Option ℕ → List Asked → List Asked
above line xs = filter (is_above line) xs

first-asked : (o : Option Requests) (line : Option ℕ) → option_and_then (λ (r : Requests). next_after r line) o ≡ first_of (above line (outstanding_of o))
first-asked None line = refl
first-asked (Some r) line = refl

-- the next request is the first above the line
pub next-first : (seats : List Seat) (k : ℕ) (line : Option ℕ) → next_at seats k line ≡ first_of (above line (asked_at seats k))
next-first seats k line = first-asked (requests_at seats k) line

ascend-of : (o : Option Requests) (c : ℕ) → FitsSeat (record { controller = c; requests = o }) → AllPairs ComesBefore (outstanding_of o)
ascend-of None c fit = AllPairs-nil ComesBefore
ascend-of (Some r) c fit = (by_line-fits r fit).ascend

pub ascend-at : (seats : List Seat) (k : ℕ) → All FitsSeat seats → AllPairs ComesBefore (asked_at seats k)
ascend-at [] k fit = AllPairs-nil ComesBefore
ascend-at (s ∷ rest) zero fit = ascend-of s.requests s.controller (All-head FitsSeat s rest fit)
ascend-at (s ∷ rest) (suc k) fit = ascend-at rest k (All-tail FitsSeat s rest fit)

all-above : (line : Option ℕ) (xs : List Asked) → All (λ (o : Asked). is_above line o ≡ true) xs → above line xs ≡ xs
all-above line [] all = refl
all-above line (x ∷ xs) all =
    rw (All-head (λ (o : Asked). is_above line o ≡ true) x xs all)
    (ap (λ z. x ∷ z) (all-above line xs (All-tail (λ (o : Asked). is_above line o ≡ true) x xs all)))

lt-true : (a b : ℕ) → a < b → nat_lt a b ≡ true
lt-true a b lt = grind (arith, nat_tests)

le-false : (a b : ℕ) → b ≤ a → nat_lt a b ≡ false
le-false a b le = grind (arith, nat_tests)

-- a request further on is above whatever one before it is above
passes-on : (line : Option ℕ) (x o : Asked) → is_above line x ≡ true → x.line < o.line → is_above line o ≡ true
passes-on None x o is lt = refl
passes-on (Some l) x o is lt = let before : l < x.line = grind (arith, nat_tests, is) in lt-true l o.line (omega arith)

above-all : (x : Asked) (xs : List Asked) → AllPairs ComesBefore (x ∷ xs) → (line : Option ℕ) → is_above line x ≡ true → All (λ (o : Asked). is_above line o ≡ true) xs
above-all x xs pairs line is = λ k d lt. passes-on line x _ is (AllPairs-head ComesBefore x xs pairs k d lt)

first-same : (x a : Asked) (rest : List Asked) → first_of (x ∷ rest) ≡ Some a → x ≡ a
first-same x a rest is = cc is

-- here the first one of the list is above the line: it is the one that was found, and the rest is above it
next-here : (x : Asked) (xs : List Asked) (line : Option ℕ) (a : Asked) → is_above line x ≡ true → AllPairs ComesBefore (x ∷ xs)
    → first_of (above line (x ∷ xs)) ≡ Some a → above line (x ∷ xs) ≡ a ∷ above (Some a.line) (x ∷ xs)
next-here x xs line a is pairs first =
    let all : above line xs ≡ xs = all-above line xs (above-all x xs pairs line is) in
    let whole : above line (x ∷ xs) ≡ x ∷ xs = rw is (ap (λ z. x ∷ z) all) in
    let same : x ≡ a = first-same x a xs (ap first_of (sym whole) ∙ first) in
    let own : above (Some x.line) (x ∷ xs) ≡ xs =
    rw (le-false x.line x.line (omega arith))
    (all-above (Some x.line) xs (λ k d lt. lt-true x.line _ (AllPairs-head ComesBefore x xs pairs k d lt))) in
    whole ∙ ap (λ z. x ∷ z) (sym own) ∙ ap (λ (o : Asked). o ∷ above (Some o.line) (x ∷ xs)) same

-- what is found in the rest comes after the first one of the list
found-by : (x y : Asked) (ys : List Asked) (line : Option ℕ) (a : Asked) (b : Bool) → is_above line y ≡ b → All (ComesBefore x) (y ∷ ys)
    → (first_of (above line ys) ≡ Some a → x.line < a.line) → first_of (above line (y ∷ ys)) ≡ Some a → x.line < a.line
found-by x y ys line a true is all rest first =
    let same : y ≡ a = first-same y a (above line ys) (subst (λ (b : Bool). first_of (cond b (y ∷ above line ys) (above line ys)) ≡ Some a) is first) in
    subst (λ (o : Asked). x.line < o.line) same (All-head (ComesBefore x) y ys all)
found-by x y ys line a false is all rest first =
    rest (subst (λ (b : Bool). first_of (cond b (y ∷ above line ys) (above line ys)) ≡ Some a) is first)

found-after : (x : Asked) (xs : List Asked) (line : Option ℕ) (a : Asked) → All (ComesBefore x) xs → first_of (above line xs) ≡ Some a → x.line < a.line
found-after x [] line a all first = absurd (cc first)
found-after x (y ∷ ys) line a all first =
    found-by x y ys line a (is_above line y) refl all (found-after x ys line a (All-tail (ComesBefore x) y ys all)) first

next-by : (x : Asked) (xs : List Asked) (line : Option ℕ) (a : Asked) (b : Bool) → is_above line x ≡ b → AllPairs ComesBefore (x ∷ xs)
    → (first_of (above line xs) ≡ Some a → above line xs ≡ a ∷ above (Some a.line) xs)
    → first_of (above line (x ∷ xs)) ≡ Some a → above line (x ∷ xs) ≡ a ∷ above (Some a.line) (x ∷ xs)
next-by x xs line a true is pairs rest first = next-here x xs line a is pairs first
next-by x xs line a false is pairs rest first =
    let first-rest : first_of (above line xs) ≡ Some a = subst (λ (b : Bool). first_of (cond b (x ∷ above line xs) (above line xs)) ≡ Some a) is first in
    let later : x.line < a.line = found-after x xs line a (AllPairs-head ComesBefore x xs pairs) first-rest in
    rw (is, le-false a.line x.line (omega arith)) (rest first-rest)

pub next-is : (xs : List Asked) → AllPairs ComesBefore xs → (line : Option ℕ) (a : Asked) → first_of (above line xs) ≡ Some a → above line xs ≡ a ∷ above (Some a.line) xs
next-is [] pairs line a first = absurd (cc first)
next-is (x ∷ xs) pairs line a first =
    next-by x xs line a (is_above line x) refl pairs (next-is xs (AllPairs-tail ComesBefore x xs pairs) line a) first

-- the first above a line that has waited is the first of all that has, as long as none below has
abbrev pub NoneBelow : ℕ → ℕ → List Asked → Option ℕ → Type 0
NoneBelow deadlock now xs line = first_of (filter (has_waited deadlock now) (above line xs)) ≡ first_of (filter (has_waited deadlock now) xs)

none-above : (xs : List Asked) → above None xs ≡ xs
none-above [] = refl
none-above (x ∷ xs) = ap (λ z. x ∷ z) (none-above xs)

pub none-below : (deadlock now : ℕ) (xs : List Asked) → NoneBelow deadlock now xs None
none-below deadlock now xs = ap (λ z. first_of (filter (has_waited deadlock now) z)) (none-above xs)

module _ (deadlock now : ℕ) (seats : List Seat) (k : ℕ) (fit : All FitsSeat seats) (line : Option ℕ) where
  abbrev one-on : Asked → Type 0
  one-on a = above line (asked_at seats k) ≡ a ∷ above (Some a.line) (asked_at seats k)

  pub split : (a : Asked) → next_at seats k line ≡ Some a → one-on a
  split a is = next-is (asked_at seats k) (ascend-at seats k fit) line a (sym (next-first seats k line) ∙ is)

  pub fewer-above : (a : Asked) → next_at seats k line ≡ Some a → length (above (Some a.line) (asked_at seats k)) < length (above line (asked_at seats k))
  fewer-above a is = let one : length (above line (asked_at seats k)) ≡ suc (length (above (Some a.line) (asked_at seats k))) = ap length (split a is) in omega arith

  pub still-none : (a : Asked) → next_at seats k line ≡ Some a → has_waited deadlock now a ≡ false → NoneBelow deadlock now (asked_at seats k) line
      → NoneBelow deadlock now (asked_at seats k) (Some a.line)
  still-none a is not_yet none =
      let rest : List Asked = above (Some a.line) (asked_at seats k) in
      let skipped : filter (has_waited deadlock now) (a ∷ rest) ≡ filter (has_waited deadlock now) rest = rw not_yet refl in
      ap first_of (sym skipped) ∙ ap (λ z. first_of (filter (has_waited deadlock now) z)) (sym (split a is)) ∙ none

  pub found : (a : Asked) → next_at seats k line ≡ Some a → has_waited deadlock now a ≡ true → NoneBelow deadlock now (asked_at seats k) line
      → first_of (filter (has_waited deadlock now) (asked_at seats k)) ≡ Some a
  found a is waited none =
      let rest : List Asked = above (Some a.line) (asked_at seats k) in
      let kept : filter (has_waited deadlock now) (a ∷ rest) ≡ a ∷ filter (has_waited deadlock now) rest = rw waited refl in
      sym none ∙ ap (λ z. first_of (filter (has_waited deadlock now) z)) (split a is) ∙ ap first_of kept

  nothing : (xs : List Asked) → first_of xs ≡ None → xs ≡ []
  nothing [] is = refl
  nothing (x ∷ xs) is = absurd (cc is)

  pub found-none : next_at seats k line ≡ None → NoneBelow deadlock now (asked_at seats k) line
      → first_of (filter (has_waited deadlock now) (asked_at seats k)) ≡ None
  found-none is none =
      sym none
      ∙ ap (λ z. first_of (filter (has_waited deadlock now) z)) (nothing (above line (asked_at seats k)) (sym (next-first seats k line) ∙ is))

-- the finding of a seat is that of its first request that has waited
first-map : {X Y : Type 0} (f : X → Y) (xs : List X) → first_of (map f xs) ≡ option_map f (first_of xs)
first-map f [] = refl
first-map f (x ∷ xs) = refl

pub finding-of : (deadlock now : ℕ) (seats : List Seat) (k c : ℕ) (s : Seat) (o : Option Asked) → slice_get seats k ≡ Some s → controller_at seats k ≡ Some c
    → first_of (filter (has_waited deadlock now) (asked_at seats k)) ≡ o
    → option_map (λ (a : Asked). Deadlock c a.line a.issued) o ≡ first_of (late_at deadlock now s)
finding-of deadlock now seats k c s o at of is =
    let asked : asked_at seats k ≡ outstanding_of s.requests = ap (λ (x : Option Seat). outstanding_of (option_and_then (λ (y : Seat). y.requests) x)) at in
    let own : Some s.controller ≡ Some c = ap (option_map (λ (x : Seat). x.controller)) (sym at) ∙ of in
    let same : s.controller ≡ c = cc own in
    ap (option_map (λ (a : Asked). Deadlock c a.line a.issued)) (sym is ∙ ap (λ z. first_of (filter (has_waited deadlock now) z)) asked)
    ∙ ap (λ (x : ℕ). option_map (λ (a : Asked). Deadlock x a.line a.issued) (first_of (filter (has_waited deadlock now) (outstanding_of s.requests)))) (sym same)
    ∙ sym (first-map (λ (a : Asked). Deadlock s.controller a.line a.issued) (filter (has_waited deadlock now) (outstanding_of s.requests)))

-- The seats one after another: the first finding of those from seat k on.
pub drop-here : (seats : List Seat) (k : ℕ) → k < length seats → (s : Seat) × (slice_get seats k ≡ Some s) × (drop k seats ≡ s ∷ drop (suc k) seats)
drop-here [] k lt = absurd (omega arith)
drop-here (s ∷ rest) zero lt = (s, refl, refl)
drop-here (s ∷ rest) (suc k) lt = drop-here rest k (omega arith)

nothing-found : (xs : List Finding) → first_of xs ≡ None → xs ≡ []
nothing-found [] is = refl
nothing-found (x ∷ xs) is = absurd (cc is)

found-first : (xs ys : List Finding) (x : Finding) → first_of xs ≡ Some x → first_of (xs ++ ys) ≡ Some x
found-first [] ys x is = absurd (cc is)
found-first (z ∷ zs) ys x is = is

abbrev pub LateFrom : ℕ → ℕ → List Seat → ℕ → Type 0
LateFrom deadlock now seats k = first_of (late deadlock now (drop k seats)) ≡ first_of (late deadlock now seats)

abbrev pub FindingAt : ℕ → ℕ → List Seat → ℕ → Option Finding → Type 0
FindingAt deadlock now seats k o = (s : Seat) → slice_get seats k ≡ Some s → o ≡ first_of (late_at deadlock now s)

pub late-on : (deadlock now : ℕ) (seats : List Seat) (k : ℕ) → k < length seats → FindingAt deadlock now seats k None → LateFrom deadlock now seats k → LateFrom deadlock now seats (suc k)
late-on deadlock now seats k lt none so =
    let h = drop-here seats k lt in
    let here : late_at deadlock now h.0 ≡ [] = nothing-found (late_at deadlock now h.0) (sym (none h.0 h.1)) in
    ap (λ (xs : List Finding). first_of (xs ++ late deadlock now (drop (suc k) seats))) (sym here)
    ∙ ap (λ (xs : List Seat). first_of (late deadlock now xs)) (sym h.2) ∙ so

pub late-found : (deadlock now : ℕ) (seats : List Seat) (k : ℕ) (x : Finding) → k < length seats → FindingAt deadlock now seats k (Some x) → LateFrom deadlock now seats k
    → Some x ≡ first_of (late deadlock now seats)
late-found deadlock now seats k x lt found so =
    let h = drop-here seats k lt in
    sym (found-first (late_at deadlock now h.0) (late deadlock now (drop (suc k) seats)) x (sym (found h.0 h.1)))
    ∙ ap (λ (xs : List Seat). first_of (late deadlock now xs)) (sym h.2) ∙ so

pub late-none : (deadlock now : ℕ) (seats : List Seat) (k : ℕ) → length seats ≤ k → LateFrom deadlock now seats k → None ≡ first_of (late deadlock now seats)
late-none deadlock now seats k le so = ap (λ (xs : List Seat). first_of (late deadlock now xs)) (sym (drop-all seats k le)) ∙ so
