-- The seats of a driver, by their numbers: for each the number of its controller and, where it has a sequencer, the requests of
-- that. Beside them stand the requests that were issued at them, in their order: a request that is issued at a seat without a
-- sequencer stands in none, and no line is ever outstanding there. Seats are this project's own.
use Rattle.std.specs.Prelude.{◌≢◌, ◌≤◌, ◌++◌, ℕ, Option, None, Some, IfSome, List, [], ◌∷◌, length, slice_get, slice_set, refl}
use Rattle.std.specs.Coded.{Coded, code_by, coded×, coded_ℕ, coded_list, coded_option}
use Rattle.std.specs.List.{All, AllPairs}
use Rattle.std.specs.Option.{option_and_then, option_map}
use Rattle.ruby_value.specs.declared.asked.Answer.{Answer}
use Rattle.ruby_value.specs.declared.asked.Asked.{Asked}
use Rattle.sequencer.specs.contracts.issued.Issued as issued
use Rattle.sequencer.specs.declared.issued.Issued.{Issued}
use Rattle.sequencer.specs.Reads.{next_after}
use Rattle.ruby_value.specs.Prelude.{FitsRequests, Requests, first_of, request_for, requests_code, with_request, without_first_answer}

pub record Seat : Type 0 where
  pub controller : ℕ
  pub requests : Option Requests

pub record Seating : Type 0 where
  pub seats : List Seat
  pub issued : List Issued

-- each is stored as the pair of its two parts
abbrev pub seat_code : Coded Seat
seat_code =
    code_by (ℕ × Option Requests) (coded× coded_ℕ (coded_option requests_code)) (λ s. (s.controller, s.requests)) (λ p. record { controller = p.0; requests = p.1 }) (λ _. refl)

abbrev pub seating_code : Coded Seating
seating_code =
    code_by (List Seat × List Issued) (coded× (coded_list seat_code) (coded_list issued.the_row.coded)) (λ s. (s.seats, s.issued)) (λ p. record { seats = p.0; issued = p.1 }) (λ _. refl)

abbrev pub AreApart : Seat → Seat → Type 0
AreApart a b = a.controller ≢ b.controller

abbrev pub FitsSeat : Seat → Type 0
FitsSeat s = IfSome s.requests FitsRequests

-- Seats at which a driver that needs so many may act: there are enough of them, no two of them are at one controller, and the
-- requests of each are what a sequencer may have.
pub record FitSeats (least : ℕ) (seats : List Seat) : Type 0 where
  pub enough : least ≤ length seats
  pub apart : AllPairs AreApart seats
  pub each : All FitsSeat seats

-- with other seats
abbrev pub with_seats : Seating → List Seat → Seating
with_seats s seats = record { seats = seats; issued = s.issued }

-- the number of a seat's controller
abbrev pub controller_at : List Seat → ℕ → Option ℕ
controller_at seats k = option_map (λ (s : Seat). s.controller) (slice_get seats k)

-- the requests of a seat's sequencer
abbrev pub requests_at : List Seat → ℕ → Option Requests
requests_at seats k = option_and_then (λ (s : Seat). s.requests) (slice_get seats k)

abbrev pub outstanding_at : List Seat → ℕ → ℕ → Option Asked
outstanding_at seats k line = option_and_then (λ (r : Requests). request_for r line) (requests_at seats k)

abbrev pub next_at : List Seat → ℕ → Option ℕ → Option Asked
next_at seats k line = option_and_then (λ (r : Requests). next_after r line) (requests_at seats k)

abbrev pub first_answer_at : List Seat → ℕ → Option Answer
first_answer_at seats k = option_and_then (λ (r : Requests). first_of r.finished) (requests_at seats k)

-- the seat with its requests changed, if it has a sequencer
abbrev pub changed_seat : (Requests → Requests) → Seat → Seat
changed_seat change s = record s { requests = option_map change s.requests }

abbrev pub with_seat : List Seat → ℕ → Option Seat → List Seat
with_seat seats k None = seats
with_seat seats k (Some s) = slice_set seats k s

abbrev pub changed_at : (Requests → Requests) → List Seat → ℕ → List Seat
changed_at change seats k = with_seat seats k (option_map (changed_seat change) (slice_get seats k))

-- the first answer of a seat is taken
abbrev pub without_answer_at : List Seat → ℕ → List Seat
without_answer_at seats k = changed_at without_first_answer seats k

-- a request is issued at its seat
abbrev pub with_issued : Seating → Issued → Seating
with_issued s i = record {
  seats = changed_at (λ r. with_request r i.asked) s.seats i.seat;
  issued = s.issued ++ i ∷ [];
}
