-- The scripted driver: a list of requests, each at its seat and in the cycle of its issue, which ascend. At its turn it takes the first
-- answer of each seat, and then issues the requests that are due, one after another. It passes over a request whose cycle isn't that of
-- the turn, that no sequencer may have, whose seat isn't there, or whose line is outstanding there. It finds nothing, and must act
-- at the cycle of the next request. All this is this project's own.
use Rattle.std.specs.Prelude.{ℕ, zero, suc, ◌+◌, ◌^◌, ◌==◌, ◌&&◌, Bool, Option, None, Some, List, [], ◌∷◌, is_none, nat_le, nat_lt, length, drop, slice_get, take, if◌then◌else◌}
use Rattle.std.specs.Option.{option_map}
use Rattle.ruby_value.specs.declared.asked.Answer.{Answer}
use Rattle.ruby_value.specs.declared.asked.Asked.{Asked}
use Rattle.ruby_value.specs.Prelude.{with_request}
use Rattle.sequencer.specs.declared.issued.Issued.{Issued}
use Rattle.sequencer.specs.Prelude.{Drive, Taken, after_taking, Seat, changed_at, first_answer_at, outstanding_at, without_answer_at}

-- all its requests, and with how many of them it is done
pub record State : Type 0 where
  pub requests : List Issued
  pub done : ℕ

abbrev pub opening : State → State
opening s = record s { done = 0 }

abbrev pub left : State → List Issued
left s = drop s.done s.requests

-- the first answers of this many seats, from a seat on
abbrev pub and_taken : ℕ → Option Answer → List Taken → List Taken
and_taken k None rest = rest
and_taken k (Some a) rest = record { seat = k; answer = a } ∷ rest

abbrev pub first_answers : ℕ → ℕ → List Seat → List Taken
first_answers zero k seats = []
first_answers (suc n) k seats = and_taken k (first_answer_at seats k) (first_answers n (k + 1) (without_answer_at seats k))

-- how many of the first requests have a cycle that has come
abbrev pub count_due : ℕ → List Issued → ℕ
count_due now [] = 0
count_due now (i ∷ rest) = if nat_le i.asked.issued now then suc (count_due now rest) else 0

abbrev pub due : ℕ → List Issued → List Issued
due now is = take (count_due now is) is

-- bytes of one line are asked for, at least one
abbrev pub is_request : Asked → Bool
is_request a = nat_lt a.line (2 ^ 58) && nat_le 1 a.size && nat_le (a.offset + a.size) 64

-- the cycle is that of the request, its seat is there, and a sequencer may have it
abbrev pub may_be_issued : ℕ → List Seat → Issued → Bool
may_be_issued now seats i = i.asked.issued == now && nat_lt i.seat (length seats) && is_request i.asked

abbrev pub can_be_issued : ℕ → List Seat → Issued → Bool
can_be_issued now seats i = may_be_issued now seats i && is_none (outstanding_at seats i.seat i.asked.line)

abbrev pub seats_after : List Seat → Issued → List Seat
seats_after seats i = changed_at (λ r. with_request r i.asked) seats i.seat

-- which of these requests are issued
abbrev pub issued_of : ℕ → List Seat → List Issued → List Issued
issued_of now seats [] = []
issued_of now seats (i ∷ rest) =
    if can_be_issued now seats i then i ∷ issued_of now (seats_after seats i) rest else issued_of now seats rest

abbrev pub after_due : State → ℕ → State
after_due s now = record s { done = s.done + count_due now (left s) }

abbrev pub next_cycle : State → Option ℕ
next_cycle s = option_map (λ (i : Issued). i.asked.issued) (slice_get s.requests s.done)

abbrev pub script_drive : State → List Seat → ℕ → Drive State
script_drive s seats now =
    let taken : List Taken = first_answers (length seats) 0 seats in
    record {
      driver = after_due s now;
      taken = taken;
      issued = issued_of now (after_taking seats taken) (due now (left s));
      finding = None;
      next = next_cycle (after_due s now);
    }

-- how many requests the turn of a cycle may issue
abbrev pub script_needs : State → ℕ → ℕ
script_needs s now = count_due now (left s)
