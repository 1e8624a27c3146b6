-- The random tester keeps the law of drivers.
use Rattle.std.specs.Prelude.{◌≡◌, ◌≤◌, ◌<◌, ◌+◌, ◌-◌, ◌/◌, ◌%◌, ◌^◌, ◌==◌, ℕ, zero, suc, Bool, true, false, cond, Option, None, Some, IfSome, IsNone, Contains, List, [], ◌∷◌, bit_or, bit_xor, is_none, length, drop, nat_le, nat_lt, slice_get, refl}
use Rattle.std.proofs.Common.{arith, add-one, ap, sym, subst, ◌∙◌}
use Rattle.std.proofs.lemmas.Bool.Decides.{nat_tests}
use Rattle.std.proofs.lemmas.List.{length-set}
use Rattle.std.proofs.lemmas.List.Elements.{All-append, All-filter, All-head, All-map, All-tail, All-weaker}
use Rattle.std.proofs.lemmas.Nat.{mod_below, or_of_32}
use Rattle.std.proofs.Math.Nat.{div-le_self, mod-le}
use Rattle.std.specs.List.{All, filter}
use Rattle.pcg_words.specs.Prelude.{generator_after, word}
use Rattle.ruby_value.specs.declared.asked.Answer.{Answer}
use Rattle.ruby_value.specs.declared.asked.Asked.{Asked}
use Rattle.ruby_value.specs.declared.fault.Finding.{Finding}
use Rattle.ruby_value.specs.declared.fault.Finding.TheVariants.{Deadlock}
use Rattle.ruby_value.proofs.Contained.{Contains-cons_here, Contains-cons_there}
use Rattle.sequencer.specs.Prelude.{CanIssue, CanIssueOne, CanTake, Drive, IsFindingAt, IsLawful, after_taking, FitSeats, FitsSeat, Seat, Seating, controller_at, first_answer_at, outstanding_at, with_seats, without_answer_at}
use Rattle.ruby_value.specs.Prelude.{IsLine, IsRequest, Requests, first_of}
use Rattle.sequencer.proofs.FitsByLine.{by_line-fits}
use Rattle.random_tester.specs.declared.slot.Slot.{Slot}
use Rattle.random_tester.specs.Answers.{from, none-at, taken-at}
use Rattle.sequencer.proofs.SeatsAfter.{controllers, controllers-kept, fit-after, length-kept, length-of-one}
use Rattle.random_tester.specs.Slot.{first_difference, fresh_slot, request_of}
use Rattle.random_tester.specs.State.{State, drawn_on, made, opening, with_slot}
use Rattle.random_tester.specs.Took.{took-none, took-on, took-stop}
use Rattle.random_tester.specs.Turn.{Act, Finished, Took, act, act_at, act_on, act_with_value, after_answer, after_check, after_took, after_wait, answers_of, compared, draw, ended, finished_at, finished_from, in_tenth, is_to, judged, judged_at, late, late_at, next_turn, outstanding_of, tester_drive, tester_needs, took}

-- Taking: each answer is the first of its seat as it is taken.
abbrev Can : List Seat → State → List Finished → Type 0
Can seats t fs = CanTake seats (took t fs).taken

can-none : (seats : List Seat) (t : State) → Can seats t []
can-none seats t = rw (took-none t) tt

can-by : (seats : List Seat) (t : State) (f : Finished) (rest : List Finished) (o : Option Finding) → (judged t f).finding ≡ o → first_answer_at seats f.seat ≡ Some f.answer
    → Can (without_answer_at seats f.seat) (judged t f).tester rest → Can seats t (f ∷ rest)
can-by seats t f rest None none is next = rw (took-on t f rest none) (is, next)
can-by seats t f rest (Some x) some is next = rw (took-stop t f rest x some) (is, tt)

has-controller : (seats : List Seat) (k : ℕ) → k < length seats → (c : ℕ) × (controller_at seats k ≡ Some c)
has-controller [] k lt = absurd (omega arith)
has-controller (s ∷ rest) zero lt = (s.controller, refl)
has-controller (s ∷ rest) (suc k) lt = has-controller rest k (omega arith)

pub drop-all : {X : Type 0} (xs : List X) (k : ℕ) → length xs ≤ k → drop k xs ≡ []
drop-all [] zero le = refl
drop-all [] (suc k) le = refl
drop-all (x ∷ xs) zero le = absurd (omega arith)
drop-all (x ∷ xs) (suc k) le = drop-all xs k (omega arith)

pub none-left : (seats : List Seat) (k : ℕ) → length seats ≤ k → from k seats ≡ []
none-left seats k le = ap (finished_from k) (drop-all seats k le)

-- a further seat, where this one has no answer
pub from-next : (seats : List Seat) (k : ℕ) → k < length seats → first_answer_at seats k ≡ None → from k seats ≡ from (k + 1) seats
from-next seats k lt none = none-at seats k k lt none ∙ ap (λ (j : ℕ). finished_from (k + 1) (drop j seats)) (sym (add-one k))

-- answers and seats that are left
abbrev left : List Seat → ℕ → ℕ
left seats k = length (from k seats) + (length seats - k)

abbrev CanUpTo : ℕ → Type 0
CanUpTo n = (t : State) (seats : List Seat) (k : ℕ) → left seats k ≤ n → Can seats t (from k seats)

can-at : (n : ℕ) → CanUpTo n → (t : State) (seats : List Seat) (k : ℕ) (o : Option Answer) → first_answer_at seats k ≡ o → k < length seats
    → left seats k ≤ suc n → Can seats t (from k seats)
can-at n rest t seats k None is lt le =
    let same : from k seats ≡ from (k + 1) seats = from-next seats k lt is in
    let as_many : length (from k seats) ≡ length (from (k + 1) seats) = ap length same in
    subst (Can seats t) (sym same) (rest t seats (k + 1) (omega arith))
can-at n rest t seats k (Some a) is lt le =
    let c = has-controller seats k lt in
    let after : List Seat = without_answer_at seats k in
    let f : Finished = record { seat = k; controller = c.0; answer = a } in
    let same : from k seats ≡ f ∷ from k after = taken-at seats k k c.0 a is c.1 in
    let one_more : length (from k seats) ≡ suc (length (from k after)) = ap length same in
    let as_many : length after ≡ length seats = length-of-one seats k in
    subst (Can seats t) (sym same)
    (can-by seats t f (from k after) (judged t f).finding refl is (rest (judged t f).tester after k (omega arith)))

can-when : (n : ℕ) → CanUpTo n → (b : Bool) (t : State) (seats : List Seat) (k : ℕ) → nat_lt k (length seats) ≡ b → left seats k ≤ suc n → Can seats t (from k seats)
can-when n rest true t seats k test le = can-at n rest t seats k (first_answer_at seats k) refl (grind (arith, nat_tests, test)) le
can-when n rest false t seats k test le =
    subst (Can seats t) (sym (none-left seats k (grind (arith, nat_tests, test)))) (can-none seats t)

can-take : (n : ℕ) → CanUpTo n
can-take zero t seats k le = subst (Can seats t) (sym (none-left seats k (omega arith))) (can-none seats t)
can-take (suc n) t seats k le = can-when n (can-take n) (nat_lt k (length seats)) t seats k refl le

-- Findings: each is at one of the seats.
record AtSeat (all : List ℕ) (f : Finished) : Type 0 where
  line : IsLine f.answer.asked.line
  controller : Contains all f.controller

abbrev FoundAt : List Seat → Option Finding → Type 0
FoundAt seats o = IfSome o (IsFindingAt seats)

found-checked : (seats : List Seat) (t : State) (line : ℕ) (b : Bool) → nat_lt (t.passed + 1) t.checks ≡ b → FoundAt seats (after_check t line).finding
found-checked seats t line true is = rw is tt
found-checked seats t line false is = rw is tt

found-compared : (seats : List Seat) (t : State) (f : Finished) (s : Slot) (o : Option ℕ) → AtSeat (controllers seats) f → FoundAt seats (compared t f s o).finding
found-compared seats t f s None at = found-checked seats t f.answer.asked.line (nat_lt (t.passed + 1) t.checks) refl
found-compared seats t f s (Some k) at = (at.line, at.controller)

found-answer : (seats : List Seat) (t : State) (f : Finished) (s : Slot) (b : Bool) → nat_lt s.stored 4 ≡ b → AtSeat (controllers seats) f → FoundAt seats (after_answer t f s).finding
found-answer seats t f s true is at = rw is tt
found-answer seats t f s false is at = rw is (found-compared seats t f s (first_difference s.first f.answer.block.bytes) at)

found-to : (seats : List Seat) (t : State) (f : Finished) (s : Slot) (b : Bool) → is_to f s.waits ≡ b → AtSeat (controllers seats) f → FoundAt seats (judged_at t f (Some s)).finding
found-to seats t f s true is at = rw is (found-answer seats t f s (nat_lt s.stored 4) refl at)
found-to seats t f s false is at = rw is tt

found-judged : (seats : List Seat) (t : State) (f : Finished) (o : Option Slot) → AtSeat (controllers seats) f → FoundAt seats (judged_at t f o).finding
found-judged seats t f None at = tt
found-judged seats t f (Some s) at = found-to seats t f s (is_to f s.waits) refl at

found-by : (seats : List Seat) (t : State) (f : Finished) (rest : List Finished) (o : Option Finding) → (judged t f).finding ≡ o → AtSeat (controllers seats) f
    → FoundAt seats (took (judged t f).tester rest).finding → FoundAt seats (took t (f ∷ rest)).finding
found-by seats t f rest None is at next = rw (took-on t f rest is) next
found-by seats t f rest (Some x) is at next = rw (took-stop t f rest x is) (found-judged seats t f (slice_get t.slots f.answer.asked.line) at)

found-took : (seats : List Seat) (t : State) (fs : List Finished) → All (AtSeat (controllers seats)) fs → FoundAt seats (took t fs).finding
found-took seats t [] all = rw (took-none t) tt
found-took seats t (f ∷ rest) all =
    found-by seats t f rest (judged t f).finding refl (All-head (AtSeat (controllers seats)) f rest all)
    (found-took seats (judged t f).tester rest (All-tail (AtSeat (controllers seats)) f rest all))

answers-fit : (o : Option Requests) (c : ℕ) → FitsSeat (record { controller = c; requests = o }) → All (λ (a : Answer). IsRequest a.asked) (answers_of o)
answers-fit None c fit = λ k d lt. absurd (omega arith)
answers-fit (Some r) c fit = fit.finished

finished-here : (all : List ℕ) (k : ℕ) (s : Seat) → FitsSeat s → Contains all s.controller → All (AtSeat all) (finished_at k s)
finished-here all k s fit at =
    All-map (AtSeat all) (λ (a : Answer). record { seat = k; controller = s.controller; answer = a }) (answers_of s.requests)
    (All-weaker (λ (a : Answer). IsRequest a.asked) (λ (a : Answer). AtSeat all (record { seat = k; controller = s.controller; answer = a }))
    (λ a is. record { line = is.line; controller = at }) (answers_of s.requests) (answers-fit s.requests s.controller fit))

finished-at : (all : List ℕ) (k : ℕ) (seats : List Seat) → All FitsSeat seats → ((c : ℕ) → Contains (controllers seats) c → Contains all c) → All (AtSeat all) (finished_from k seats)
finished-at all k [] fit among = λ j d lt. absurd (omega arith)
finished-at all k (s ∷ rest) fit among =
    All-append (AtSeat all) (finished_at k s) (finished_from (k + 1) rest)
    (finished-here all k s (All-head FitsSeat s rest fit) (among s.controller (Contains-cons_here s.controller (controllers rest))))
    (finished-at all (k + 1) rest (All-tail FitsSeat s rest fit) (λ c is. among c (Contains-cons_there s.controller c (controllers rest) is)))

-- the requests that have waited too long
late-asked : (o : Option Requests) (c : ℕ) → FitsSeat (record { controller = c; requests = o }) → All IsRequest (outstanding_of o)
late-asked None c fit = λ k d lt. absurd (omega arith)
late-asked (Some r) c fit = (by_line-fits r fit).each

late-here : (all : List Seat) (deadlock now : ℕ) (s : Seat) → FitsSeat s → Contains (controllers all) s.controller → All (IsFindingAt all) (late_at deadlock now s)
late-here all deadlock now s fit at =
    let asked : List Asked = filter (λ (a : Asked). nat_le deadlock (now - a.issued)) (outstanding_of s.requests) in
    All-map (IsFindingAt all) (λ (a : Asked). Deadlock s.controller a.line a.issued) asked
    (All-weaker IsRequest (λ (a : Asked). IsFindingAt all (Deadlock s.controller a.line a.issued)) (λ a is. (is.line, at)) asked
    (All-filter (λ (a : Asked). nat_le deadlock (now - a.issued)) IsRequest (outstanding_of s.requests) (late-asked s.requests s.controller fit)))

late-at : (all : List Seat) (deadlock now : ℕ) (seats : List Seat) → All FitsSeat seats → ((c : ℕ) → Contains (controllers seats) c → Contains (controllers all) c)
    → All (IsFindingAt all) (late deadlock now seats)
late-at all deadlock now [] fit among = λ j d lt. absurd (omega arith)
late-at all deadlock now (s ∷ rest) fit among =
    All-append (IsFindingAt all) (late_at deadlock now s) (late deadlock now rest)
    (late-here all deadlock now s (All-head FitsSeat s rest fit) (among s.controller (Contains-cons_here s.controller (controllers rest))))
    (late-at all deadlock now rest (All-tail FitsSeat s rest fit) (λ c is. among c (Contains-cons_there s.controller c (controllers rest) is)))

first-is : {X : Type 0} (P : X → Type 0) (xs : List X) → All P xs → IfSome (first_of xs) P
first-is P [] all = tt
first-is P (x ∷ xs) all = All-head P x xs all

-- Issuing: what is drawn is a line and a seat.
or-small : (n a b : ℕ) → n < 2 ^ 32 → bit_or (n / a) (b % 2 ^ 32) < 2 ^ 32
or-small n a b lt =
    let no_more : n / a ≤ n = div-le_self n a in
    or_of_32 (n / a) (b % 2 ^ 32) (omega (arith, lt, no_more)) (mod_below b (2 ^ 32) (omega arith))

word-small : (seed stream n : ℕ) → word seed stream n < 2 ^ 32
unfolding word
word-small seed stream n =
    let state : ℕ = (generator_after seed stream n).state in
    let bits : ℕ = bit_xor (state / 2 ^ 18) state / 2 ^ 27 in
    or-small (bits % 2 ^ 32) _ _ (mod_below bits (2 ^ 32) (omega arith))

abbrev CanAct : ℕ → Seating → Act → Type 0
CanAct now s a = CanIssue now s a.issued × (length a.issued ≤ 1)

request-is : (line : ℕ) (s : Slot) (now : ℕ) (b : Bool) → nat_lt s.stored 4 ≡ b → IsLine line → IsRequest (request_of line s now)
request-is line s now true is at = let few : s.stored < 4 = grind (arith, nat_tests, is) in rw is (record { line = at; some_bytes = omega arith; within = omega arith })
request-is line s now false is at = rw is (record { line = at; some_bytes = omega arith; within = omega arith })

request-now : (line : ℕ) (s : Slot) (now : ℕ) (b : Bool) → nat_lt s.stored 4 ≡ b → (request_of line s now).issued ≡ now
request-now line s now true is = rw is refl
request-now line s now false is = rw is refl

request-line : (line : ℕ) (s : Slot) (now : ℕ) (b : Bool) → nat_lt s.stored 4 ≡ b → (request_of line s now).line ≡ line
request-line line s now true is = rw is refl
request-line line s now false is = rw is refl

is-none : (o : Option Asked) → is_none o ≡ true → IsNone o
is-none None is = refl
is-none (Some a) is = absurd (cc is)

can-at-seat : (t : State) (line : ℕ) (s : Slot) (seat : ℕ) (all : Seating) (now : ℕ) (b : Bool) → is_none (outstanding_at all.seats seat line) ≡ b
    → seat < length all.seats → IsLine line → CanAct now all (act_at t line s seat all.seats now)
can-at-seat t line s seat all now true is there at =
    let free : IsNone (outstanding_at all.seats seat line) = is-none (outstanding_at all.seats seat line) is in
    let own : (request_of line s now).line ≡ line = request-line line s now (nat_lt s.stored 4) refl in
    let one : CanIssueOne now all.seats (record { seat = seat; asked = request_of line s now }) =
    record {
      seat = there;
      request = request-is line s now (nat_lt s.stored 4) refl at;
      cycle = request-now line s now (nat_lt s.stored 4) refl;
      free = subst (λ (l : ℕ). IsNone (outstanding_at all.seats seat l)) (sym own) free;
    } in
    rw is ((one, tt), omega arith)
can-at-seat t line s seat all now false is there at = rw is (tt, omega arith)

can-with-value : (t : State) (line : ℕ) (s : Slot) (seat : ℕ) (all : Seating) (now : ℕ) (b : Bool) → (s.stored == 0) ≡ b
    → seat < length all.seats → IsLine line → CanAct now all (act_with_value t line s seat all.seats now)
can-with-value t line s seat all now true is there at =
    rw is (can-at-seat (drawn_on t) line (record s { first = draw t 256 }) seat all now (is_none (outstanding_at all.seats seat line)) refl there at)
can-with-value t line s seat all now false is there at =
    rw is (can-at-seat t line s seat all now (is_none (outstanding_at all.seats seat line)) refl there at)

can-slot : (t : State) (line : ℕ) (s : Slot) (all : Seating) (now : ℕ) (b : Bool) → is_none s.waits ≡ b → 1 ≤ length all.seats → IsLine line
    → CanAct now all (act_on t line (Some s) all.seats now)
can-slot t line s all now true is some at =
    rw is (can-with-value (drawn_on t) line s (draw t (length all.seats)) all now (s.stored == 0) refl (mod_below _ (length all.seats) (omega arith)) at)
can-slot t line s all now false is some at = rw is (tt, omega arith)

can-on : (t : State) (line : ℕ) (o : Option Slot) (all : Seating) (now : ℕ) → 1 ≤ length all.seats → IsLine line → CanAct now all (act_on t line o all.seats now)
can-on t line None all now some at = (tt, omega arith)
can-on t line (Some s) all now some at = can-slot t line s all now (is_none s.waits) refl some at

drawn-line : (t : State) (bound : ℕ) → IsLine (draw t bound)
drawn-line t bound =
    let w : ℕ = word t.words.seed t.words.stream t.words.drawn in
    let small : w < 2 ^ 32 = word-small t.words.seed t.words.stream t.words.drawn in
    let no_more : w % bound ≤ w = mod-le w bound in
    omega (arith, small, no_more)

can-act : (t : State) (all : Seating) (now : ℕ) → 1 ≤ length all.seats → CanAct now all (act t all.seats now)
can-act t all now some =
    can-on (drawn_on t) (draw t (length t.slots)) (slice_get t.slots (draw t (length t.slots))) all now some (drawn-line t (length t.slots))

-- The turn.
ahead : (now : ℕ) → now < next_turn now
ahead now = omega arith

enough : (b : Bool) (n : ℕ) → b ≡ true → n ≤ 1 → n ≤ cond b 1 0
enough true n is le = le
enough false n is le = absurd (cc is)

abbrev Lawful : Seating → ℕ → Drive State → Type 0
Lawful s now d = IsLawful (cond (now % 10 == 0) 1 0) now s d

ended-lawful : (k : Took) (s : Seating) (now : ℕ) (o : Option Finding) → CanTake s.seats k.taken → FoundAt s.seats o → Lawful s now (ended k o now)
ended-lawful k s now o can found = record { taken = can; issued = tt; few = omega arith; ahead = ahead now; finding = found }

wait-lawful : (k : Took) (s : Seating) (now : ℕ) (o : Option Finding) → CanTake s.seats k.taken → FoundAt s.seats o → 1 ≤ length s.seats → (now % 10 == 0) ≡ true
    → Lawful s now (after_wait k (after_taking s.seats k.taken) o now)
wait-lawful k s now (Some x) can found some tenth = ended-lawful k s now (Some x) can found
wait-lawful k s now None can found some tenth =
    let after : List Seat = after_taking s.seats k.taken in
    let as_many : length after ≡ length s.seats = length-kept s.seats k.taken in
    let a = can-act k.tester (with_seats s after) now (omega arith) in
    record { taken = can; issued = a.0; few = enough (now % 10 == 0) _ tenth a.1; ahead = ahead now; finding = tt }

late-found : (k : Took) (s : Seating) (now : ℕ) → All FitsSeat s.seats → FoundAt s.seats (first_of (late k.tester.deadlock now (after_taking s.seats k.taken)))
late-found k s now fit =
    let after : List Seat = after_taking s.seats k.taken in
    let all : All (IsFindingAt s.seats) (late k.tester.deadlock now after) =
    late-at s.seats k.tester.deadlock now after (fit-after s.seats k.taken fit)
    (λ c is. subst (λ (cs : List ℕ). Contains cs c) (controllers-kept s.seats k.taken) is) in
    first-is (IsFindingAt s.seats) (late k.tester.deadlock now after) all

tenth-lawful : (k : Took) (s : Seating) (now : ℕ) (b : Bool) → (now % 10 == 0) ≡ b → CanTake s.seats k.taken → FitSeats 1 s.seats
    → Lawful s now (in_tenth k (after_taking s.seats k.taken) now)
tenth-lawful k s now true is can fit =
    let after : List Seat = after_taking s.seats k.taken in
    let d : Lawful s now (after_wait k after (first_of (late k.tester.deadlock now after)) now) =
    wait-lawful k s now (first_of (late k.tester.deadlock now after)) can (late-found k s now fit.each) fit.enough is in
    subst (λ (b : Bool). Lawful s now (cond b (after_wait k after (first_of (late k.tester.deadlock now after)) now) (ended k None now))) (sym is) d
tenth-lawful k s now false is can fit =
    let after : List Seat = after_taking s.seats k.taken in
    subst (λ (b : Bool). Lawful s now (cond b (after_wait k after (first_of (late k.tester.deadlock now after)) now) (ended k None now))) (sym is)
    (ended-lawful k s now None can tt)

took-lawful : (k : Took) (s : Seating) (now : ℕ) (o : Option Finding) → CanTake s.seats k.taken → FoundAt s.seats o → FitSeats 1 s.seats
    → Lawful s now (after_took k o s.seats now)
took-lawful k s now (Some x) can found fit = ended-lawful k s now (Some x) can found
took-lawful k s now None can found fit = tenth-lawful k s now (now % 10 == 0) refl can fit

pub tester_lawful : (t : State) (s : Seating) (now : ℕ) → FitSeats 1 s.seats → now ≤ 10 ^ 12 → IsLawful (tester_needs t now) now s (tester_drive t s.seats now)
tester_lawful t s now fit within =
    let fs : List Finished = finished_from 0 s.seats in
    took-lawful (took t fs) s now (took t fs).finding
    (can-take (left s.seats 0) t s.seats 0 (omega arith))
    (found-took s.seats t fs (finished-at (controllers s.seats) 0 s.seats fit.each (λ c is. is)))
    fit

-- The opening: no turn changes the seed, the stream, how many lines there are, or what the tester was asked for.
slot-opening : (t : State) (line : ℕ) (s : Slot) → opening (with_slot t line s) ≡ opening t
slot-opening t line s = ap (λ (n : ℕ). made t.words.seed t.words.stream n t.checks t.deadlock) (length-set t.slots line s)

checked-opening : (t : State) (line : ℕ) (b : Bool) → nat_lt (t.passed + 1) t.checks ≡ b → opening (after_check t line).tester ≡ opening t
checked-opening t line true is = rw is (slot-opening t line fresh_slot)
checked-opening t line false is = rw is (slot-opening t line fresh_slot)

compared-opening : (t : State) (f : Finished) (s : Slot) (o : Option ℕ) → opening (compared t f s o).tester ≡ opening t
compared-opening t f s None = checked-opening t f.answer.asked.line (nat_lt (t.passed + 1) t.checks) refl
compared-opening t f s (Some k) = refl

answer-opening : (t : State) (f : Finished) (s : Slot) (b : Bool) → nat_lt s.stored 4 ≡ b → opening (after_answer t f s).tester ≡ opening t
answer-opening t f s true is = rw is (slot-opening t f.answer.asked.line (record s { stored = s.stored + 1; waits = None }))
answer-opening t f s false is = rw is (compared-opening t f s (first_difference s.first f.answer.block.bytes))

to-opening : (t : State) (f : Finished) (s : Slot) (b : Bool) → is_to f s.waits ≡ b → opening (judged_at t f (Some s)).tester ≡ opening t
to-opening t f s true is = rw is (answer-opening t f s (nat_lt s.stored 4) refl)
to-opening t f s false is = rw is refl

judged-opening : (t : State) (f : Finished) (o : Option Slot) → opening (judged_at t f o).tester ≡ opening t
judged-opening t f None = refl
judged-opening t f (Some s) = to-opening t f s (is_to f s.waits) refl

opening-by : (t : State) (f : Finished) (rest : List Finished) (o : Option Finding) → (judged t f).finding ≡ o
    → opening (took (judged t f).tester rest).tester ≡ opening (judged t f).tester → opening (took t (f ∷ rest)).tester ≡ opening t
opening-by t f rest None is next = rw (took-on t f rest is) (next ∙ judged-opening t f (slice_get t.slots f.answer.asked.line))
opening-by t f rest (Some x) is next = rw (took-stop t f rest x is) (judged-opening t f (slice_get t.slots f.answer.asked.line))

took-opening : (t : State) (fs : List Finished) → opening (took t fs).tester ≡ opening t
took-opening t [] = rw (took-none t) refl
took-opening t (f ∷ rest) = opening-by t f rest (judged t f).finding refl (took-opening (judged t f).tester rest)

at-opening : (t : State) (line : ℕ) (s : Slot) (seat : ℕ) (seats : List Seat) (now : ℕ) (b : Bool) → is_none (outstanding_at seats seat line) ≡ b
    → opening (act_at t line s seat seats now).tester ≡ opening t
at-opening t line s seat seats now true is =
    rw is (slot-opening t line (record s { waits = Some (record { seat = seat; asked = request_of line s now }) }))
at-opening t line s seat seats now false is = rw is refl

value-opening : (t : State) (line : ℕ) (s : Slot) (seat : ℕ) (seats : List Seat) (now : ℕ) (b : Bool) → (s.stored == 0) ≡ b
    → opening (act_with_value t line s seat seats now).tester ≡ opening t
value-opening t line s seat seats now true is = rw is (at-opening (drawn_on t) line (record s { first = draw t 256 }) seat seats now (is_none (outstanding_at seats seat line)) refl)
value-opening t line s seat seats now false is = rw is (at-opening t line s seat seats now (is_none (outstanding_at seats seat line)) refl)

slot-act-opening : (t : State) (line : ℕ) (s : Slot) (seats : List Seat) (now : ℕ) (b : Bool) → is_none s.waits ≡ b → opening (act_on t line (Some s) seats now).tester ≡ opening t
slot-act-opening t line s seats now true is = rw is (value-opening (drawn_on t) line s (draw t (length seats)) seats now (s.stored == 0) refl)
slot-act-opening t line s seats now false is = rw is refl

on-opening : (t : State) (line : ℕ) (o : Option Slot) (seats : List Seat) (now : ℕ) → opening (act_on t line o seats now).tester ≡ opening t
on-opening t line None seats now = refl
on-opening t line (Some s) seats now = slot-act-opening t line s seats now (is_none s.waits) refl

act-opening : (t : State) (seats : List Seat) (now : ℕ) → opening (act t seats now).tester ≡ opening t
act-opening t seats now = on-opening (drawn_on t) (draw t (length t.slots)) (slice_get t.slots (draw t (length t.slots))) seats now

wait-opening : (k : Took) (seats : List Seat) (now : ℕ) (o : Option Finding) → opening (after_wait k seats o now).driver ≡ opening k.tester
wait-opening k seats now (Some x) = refl
wait-opening k seats now None = act-opening k.tester seats now

tenth-opening : (k : Took) (seats : List Seat) (now : ℕ) (b : Bool) → (now % 10 == 0) ≡ b → opening (in_tenth k seats now).driver ≡ opening k.tester
tenth-opening k seats now true is = rw is (wait-opening k seats now (first_of (late k.tester.deadlock now seats)))
tenth-opening k seats now false is = rw is refl

turn-opening : (k : Took) (seats : List Seat) (now : ℕ) (o : Option Finding) → opening (after_took k o seats now).driver ≡ opening k.tester
turn-opening k seats now (Some x) = refl
turn-opening k seats now None = tenth-opening k (after_taking seats k.taken) now (now % 10 == 0) refl

pub tester_lasting : (t : State) (seats : List Seat) (now : ℕ) → (◌≡◌ {A = ℕ} 1 1) × (opening (tester_drive t seats now).driver ≡ opening t)
tester_lasting t seats now =
    let k : Took = took t (finished_from 0 seats) in
    (refl, turn-opening k seats now k.finding ∙ took-opening t (finished_from 0 seats))
