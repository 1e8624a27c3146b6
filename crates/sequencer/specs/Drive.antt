-- What a driver does at its turn of a cycle: the answers that it takes, the requests that it issues, the driver afterwards, what it
-- finds, and the next cycle at which it must act, if any. What the turn makes of its seats follows. Each answer is the first of
-- its seat as it is taken, and no request's line is outstanding at its seat as it is issued. Answers and requests have no part
-- in common, so it doesn't matter whether a driver takes before it issues. Drivers are this project's own.
use Rattle.std.specs.Prelude.{◌≡◌, ◌<◌, ◌≤◌, ℕ, Option, Some, IfSome, List, [], ◌∷◌, Contains, IsNone, length, map}
use Rattle.ruby_value.specs.declared.asked.Answer.{Answer}
use Rattle.ruby_value.specs.declared.fault.Finding.{Finding}
use Rattle.ruby_value.specs.declared.fault.Finding.TheVariants.{Incoherent, Deadlock, Passed}
use Rattle.sequencer.specs.declared.issued.Issued.{Issued}
use Rattle.ruby_value.specs.Prelude.{IsLine, IsRequest}
use Rattle.sequencer.specs.Seats.{Seat, Seating, first_answer_at, outstanding_at, with_issued, with_seats, without_answer_at}

-- an answer that was taken at a seat
pub record Taken : Type 0 where
  pub seat : ℕ
  pub answer : Answer

pub record Drive (D : Type 0) : Type 0 where
  pub driver : D
  pub taken : List Taken
  pub issued : List Issued
  pub finding : Option Finding
  pub next : Option ℕ

-- the seats after these answers were taken one after another
abbrev pub after_taking : List Seat → List Taken → List Seat
after_taking seats [] = seats
after_taking seats (t ∷ rest) = after_taking (without_answer_at seats t.seat) rest

-- the seats after these requests were issued one after another
abbrev pub after_issuing : Seating → List Issued → Seating
after_issuing s [] = s
after_issuing s (i ∷ rest) = after_issuing (with_issued s i) rest

abbrev pub seats_after_taking : {D : Type 0} → Seating → Drive D → Seating
seats_after_taking s d = with_seats s (after_taking s.seats d.taken)

-- what a turn makes of the seats
abbrev pub after_drive : {D : Type 0} → Seating → Drive D → Seating
after_drive s d = after_issuing (seats_after_taking s d) d.issued

-- each answer is the first of its seat as it is taken
abbrev pub CanTake : List Seat → List Taken → Type 0
CanTake seats [] = Unit {0}
CanTake seats (t ∷ rest) = (first_answer_at seats t.seat ≡ Some t.answer) × CanTake (without_answer_at seats t.seat) rest

-- a request can be issued at its seat in a cycle
pub record CanIssueOne (now : ℕ) (seats : List Seat) (i : Issued) : Type 0 where
  pub seat : i.seat < length seats
  pub request : IsRequest i.asked
  pub cycle : i.asked.issued ≡ now
  pub free : IsNone (outstanding_at seats i.seat i.asked.line)

abbrev pub CanIssue : ℕ → Seating → List Issued → Type 0
CanIssue now s [] = Unit {0}
CanIssue now s (i ∷ rest) = CanIssueOne now s.seats i × CanIssue now (with_issued s i) rest

-- a finding names a line, and the controller of a seat
abbrev pub IsFindingAt : List Seat → Finding → Type 0
IsFindingAt seats (Incoherent controller line offset expected found) =
    IsLine line × Contains (map (λ (s : Seat). s.controller) seats) controller
IsFindingAt seats (Deadlock controller line issued) =
    IsLine line × Contains (map (λ (s : Seat). s.controller) seats) controller
IsFindingAt seats (Passed checks) = Unit {0}

-- What a turn may do at these seats in a cycle, where it may issue so many requests: the answers can be taken, the requests can be
-- issued after that and are no more than these, the next cycle comes later, and what it finds is at one of the seats.
pub record IsLawful {D : Type 0} (most now : ℕ) (s : Seating) (d : Drive D) : Type 0 where
  pub taken : CanTake s.seats d.taken
  pub issued : CanIssue now (seats_after_taking s d) d.issued
  pub few : length d.issued ≤ most
  pub ahead : IfSome d.next (λ next. now < next)
  pub finding : IfSome d.finding (IsFindingAt s.seats)
