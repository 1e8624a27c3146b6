-- The random tester's turn of a cycle, in four points: it takes the finished requests; it goes on only in every tenth cycle; it
-- looks for a request that has waited too long; it draws a slot, and issues what that slot asks for. A finding ends the turn.
-- The next cycle at which it must act is the next multiple of 10. All of this is this project's own.
use Rattle.std.specs.Prelude.{ℕ, ◌+◌, ◌*◌, ◌/◌, ◌%◌, ◌-◌, ◌==◌, Bool, false, Option, None, Some, List, [], ◌∷◌, ◌++◌, is_none, nat_le, nat_lt, length, map, slice_get, slice_index_or, if◌then◌else◌}
use Rattle.std.specs.List.{filter}
use Rattle.pcg_words.specs.Prelude.{below}
use Rattle.ruby_value.specs.declared.asked.Answer.{Answer}
use Rattle.ruby_value.specs.declared.asked.Asked.{Asked}
use Rattle.ruby_value.specs.declared.fault.Finding.{Finding}
use Rattle.ruby_value.specs.declared.fault.Finding.TheVariants.{Incoherent, Deadlock, Passed}
use Rattle.sequencer.specs.declared.issued.Issued.{Issued}
use Rattle.sequencer.specs.Prelude.{Drive, Taken, after_taking, by_line, Seat, outstanding_at}
use Rattle.ruby_value.specs.Prelude.{Requests, first_of}
use Rattle.random_tester.specs.declared.slot.Slot.{Slot}
use Rattle.random_tester.specs.Slot.{first_difference, fresh_slot, is_same_request, request_of, value_at}
use Rattle.random_tester.specs.State.{State, drawn_on, with_slot}

-- 1. The finished requests, by their seats in increasing number, and at each seat as they are taken there: by increasing line.
-- An answer is one with the number of its seat and of that seat's controller.
pub record Finished : Type 0 where
  pub seat : ℕ
  pub controller : ℕ
  pub answer : Answer

abbrev pub answers_of : Option Requests → List Answer
answers_of None = []
answers_of (Some r) = r.finished

abbrev pub finished_at : ℕ → Seat → List Finished
finished_at k s = map (λ a. record { seat = k; controller = s.controller; answer = a }) (answers_of s.requests)

-- of these seats, whose first is number k
abbrev pub finished_from : ℕ → List Seat → List Finished
finished_from k [] = []
finished_from k (s ∷ rest) = finished_at k s ++ finished_from (k + 1) rest

-- an answer is to the request that its slot waits for: at the seat where it was issued, and to that very request
abbrev pub is_to : Finished → Option Issued → Bool
is_to f None = false
is_to f (Some i) = if f.seat == i.seat then is_same_request f.answer.asked i.asked else false

-- the tester after an answer, and what it has found
pub record Judged : Type 0 where
  pub tester : State
  pub finding : Option Finding

-- one more check has passed, and its slot begins again; when as many as are wanted have passed, that is a finding
abbrev pub after_check : State → ℕ → Judged
after_check t line =
    if nat_lt (t.passed + 1) t.checks
    then record { tester = record (with_slot t line fresh_slot) { passed = t.passed + 1 }; finding = None }
    else record { tester = record (with_slot t line fresh_slot) { passed = t.checks }; finding = Some (Passed t.checks) }

-- the bytes of a finished load are compared
abbrev pub compared : State → Finished → Slot → Option ℕ → Judged
compared t f s None = after_check t f.answer.asked.line
compared t f s (Some k) = record {
  tester = t;
  finding = Some (Incoherent f.controller f.answer.asked.line k (value_at s.first k) (slice_index_or f.answer.block.bytes k 0));
}

-- a finished store moves its slot on by one byte
abbrev pub after_answer : State → Finished → Slot → Judged
after_answer t f s =
    if nat_lt s.stored 4
    then record { tester = with_slot t f.answer.asked.line (record s { stored = s.stored + 1; waits = None }); finding = None }
    else compared t f s (first_difference s.first f.answer.block.bytes)

-- an answer whose line has no slot, or that isn't to the request that its slot waits for, is passed over
abbrev pub judged_at : State → Finished → Option Slot → Judged
judged_at t f None = record { tester = t; finding = None }
judged_at t f (Some s) = if is_to f s.waits then after_answer t f s else record { tester = t; finding = None }

abbrev pub judged : State → Finished → Judged
judged t f = judged_at t f (slice_get t.slots f.answer.asked.line)

-- the tester after it has taken answers up to a finding, if one comes, and which it has taken
pub record Took : Type 0 where
  pub tester : State
  pub taken : List Taken
  pub finding : Option Finding

abbrev pub and_before : Finished → Took → Took
and_before f rest = record rest { taken = record { seat = f.seat; answer = f.answer } ∷ rest.taken }

abbrev pub took_first : Finished → State → Option Finding → (State → Took) → Took
took_first f t None rest = and_before f (rest t)
took_first f t (Some finding) rest =
    and_before f (record { tester = t; taken = []; finding = Some finding })

unfoldable pub took : State → List Finished → Took
took t [] = record { tester = t; taken = []; finding = None }
took t (f ∷ rest) = took_first f (judged t f).tester (judged t f).finding (λ after. took after rest)

-- 3. The requests that have waited for so many cycles or more, by their seats in increasing number and by increasing line.
abbrev pub outstanding_of : Option Requests → List Asked
outstanding_of None = []
outstanding_of (Some r) = by_line r

abbrev pub late_at : ℕ → ℕ → Seat → List Finding
late_at deadlock now s =
    map (λ a. Deadlock s.controller a.line a.issued) (filter (λ a. nat_le deadlock (now - a.issued)) (outstanding_of s.requests))

abbrev pub late : ℕ → ℕ → List Seat → List Finding
late deadlock now [] = []
late deadlock now (s ∷ rest) = late_at deadlock now s ++ late deadlock now rest

-- 4. A draw below a bound, and with what a slot asks: at byte 0 of its stores it draws the value of that byte.
abbrev pub draw : State → ℕ → ℕ
draw t bound = below t.words.seed t.words.stream t.words.drawn bound

-- the tester after its draws, and the request that it issued, if any
pub record Act : Type 0 where
  pub tester : State
  pub issued : List Issued

-- A request whose line is outstanding at its seat is refused: its slot stays as it was, with the value that it had, though the words
-- are drawn.
abbrev pub act_at : State → ℕ → Slot → ℕ → List Seat → ℕ → Act
act_at t line s seat seats now =
    let i : Issued = record { seat = seat; asked = request_of line s now } in
    if is_none (outstanding_at seats seat line)
    then record { tester = with_slot t line (record s { waits = Some i }); issued = i ∷ [] }
    else record { tester = t; issued = [] }

-- the slot drew the value of its byte 0, or needs none
abbrev pub act_with_value : State → ℕ → Slot → ℕ → List Seat → ℕ → Act
act_with_value t line s seat seats now =
    if s.stored == 0
    then act_at (drawn_on t) line (record s { first = draw t 256 }) seat seats now
    else act_at t line s seat seats now

abbrev pub act_on : State → ℕ → Option Slot → List Seat → ℕ → Act
act_on t line None seats now = record { tester = t; issued = [] }
act_on t line (Some s) seats now =
    if is_none s.waits
    then act_with_value (drawn_on t) line s (draw t (length seats)) seats now
    else record { tester = t; issued = [] }

-- the slot is drawn first
abbrev pub act : State → List Seat → ℕ → Act
act t seats now =
    let line : ℕ = draw t (length t.slots) in
    act_on (drawn_on t) line (slice_get t.slots line) seats now

-- The turn, of which points 3 and 4 find the seats as point 1 has left them.
abbrev pub next_turn : ℕ → ℕ
next_turn now = (now / 10 + 1) * 10

abbrev pub ended : Took → Option Finding → ℕ → Drive State
ended k finding now = record { driver = k.tester; taken = k.taken; issued = []; finding = finding; next = Some (next_turn now) }

abbrev pub acted : Took → Act → ℕ → Drive State
acted k a now = record { driver = a.tester; taken = k.taken; issued = a.issued; finding = None; next = Some (next_turn now) }

abbrev pub after_wait : Took → List Seat → Option Finding → ℕ → Drive State
after_wait k seats (Some finding) now = ended k (Some finding) now
after_wait k seats None now = acted k (act k.tester seats now) now

abbrev pub in_tenth : Took → List Seat → ℕ → Drive State
in_tenth k seats now =
    if now % 10 == 0 then after_wait k seats (first_of (late k.tester.deadlock now seats)) now else ended k None now

abbrev pub after_took : Took → Option Finding → List Seat → ℕ → Drive State
after_took k (Some finding) seats now = ended k (Some finding) now
after_took k None seats now = in_tenth k (after_taking seats k.taken) now

abbrev pub tester_drive : State → List Seat → ℕ → Drive State
tester_drive t seats now = let k : Took = took t (finished_from 0 seats) in after_took k k.finding seats now

-- how many requests the turn of a cycle may issue
abbrev pub tester_needs : State → ℕ → ℕ
tester_needs t now = if now % 10 == 0 then 1 else 0
