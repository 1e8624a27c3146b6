-- The plain driver keeps the law of drivers: it takes no answer, and its one request is of a seat that is there, of line 0, and is
-- issued only where that is free.
use Rattle.std.specs.Prelude.{◌≡◌, ◌≤◌, ◌<◌, ◌+◌, ◌^◌, ◌&&◌, ℕ, Bool, true, false, cond, None, Some, IfSome, Option, List, [], ◌∷◌, is_none, nat_lt, length, refl}
use Rattle.std.proofs.Common.{arith}
use Rattle.ruby_value.specs.declared.asked.Asked.{Asked}
use Rattle.sequencer.specs.declared.issued.Issued.{Issued}
use Rattle.sequencer.specs.Drive.{CanIssue, IsLawful}
use Rattle.sequencer.specs.PlainDriver.{plain_drive, plain_load, plain_needs}
use Rattle.ruby_value.specs.Prelude.{IsRequest}
use Rattle.sequencer.specs.Seats.{FitSeats, Seat, Seating, outstanding_at}

abbrev plain_issue : ℕ → Issued
plain_issue now = record { seat = 0; asked = plain_load now }

is-request : (now : ℕ) → IsRequest (plain_load now)
is-request now = record { line = omega arith; some_bytes = omega arith; within = omega arith }

can-issue : (s : Seating) (now : ℕ) (b : Bool) (o : Option Asked) → 1 ≤ length s.seats → outstanding_at s.seats 0 0 ≡ o
    → CanIssue now s (cond (b && is_none o) (plain_issue now ∷ []) [])
can-issue s now true None enough is = (record { seat = omega arith; request = is-request now; cycle = refl; free = rw is refl }, tt)
can-issue s now true (Some a) enough is = tt
can-issue s now false o enough is = tt

few : (now : ℕ) (b c : Bool) → length (cond (b && c) (plain_issue now ∷ []) []) ≤ cond b 1 0
few now true true = omega arith
few now true false = omega arith
few now false c = omega arith

ahead : (now : ℕ) (b : Bool) → IfSome (cond b (Some (now + 1)) None) (λ next. now < next)
ahead now true = omega arith
ahead now false = tt

pub plain_lawful : (requests : ℕ) (s : Seating) (now : ℕ) → FitSeats 1 s.seats → now ≤ 10 ^ 12
    → IsLawful (plain_needs requests now) now s (plain_drive requests s.seats now)
plain_lawful requests s now fit within = record {
  taken = tt;
  issued = can-issue s now (nat_lt now requests) (outstanding_at s.seats 0 0) fit.enough refl;
  few = few now (nat_lt now requests) (is_none (outstanding_at s.seats 0 0));
  ahead = ahead now (nat_lt (now + 1) requests);
  finding = tt;
}

pub plain_lasting : (requests : ℕ) (seats : List Seat) (now : ℕ) → (◌≡◌ {A = ℕ} 1 1) × ((plain_drive requests seats now).driver ≡ requests)
plain_lasting requests seats now = (refl, refl)
