-- The scripted driver keeps the law of drivers: each answer is the first of its seat as it is taken, and a request is issued only where
-- it can be.
use Rattle.std.specs.Prelude.{◌≡◌, ◌≤◌, ◌<◌, ◌+◌, ◌^◌, ◌==◌, ◌&&◌, ℕ, zero, suc, Bool, true, false, Option, None, Some, IfSome, IsNone, List, [], ◌∷◌, is_none, nat_le, nat_lt, length, drop, slice_get, refl}
use Rattle.std.proofs.Common.{arith, ap, sym, subst, ◌∙◌}
use Rattle.std.proofs.lemmas.Bool.{and_parts}
use Rattle.std.proofs.lemmas.Bool.Decides.{nat_tests}
use Rattle.std.proofs.lemmas.List.{length-take}
use Rattle.std.specs.Option.{option_map}
use Rattle.ruby_value.specs.declared.asked.Answer.{Answer}
use Rattle.ruby_value.specs.declared.asked.Asked.{Asked}
use Rattle.ruby_value.specs.Prelude.{IsRequest}
use Rattle.sequencer.specs.declared.issued.Issued.{Issued}
use Rattle.sequencer.specs.Prelude.{CanIssue, CanIssueOne, CanTake, IsLawful, after_taking, FitSeats, Seat, Seating, first_answer_at, outstanding_at, with_issued, with_seats, without_answer_at}
use Rattle.sequencer.proofs.SeatsAfter.{unchanged}
use Rattle.controller_rows.specs.Script.{State, and_taken, can_be_issued, count_due, due, first_answers, is_request, issued_of, left, may_be_issued, opening, script_drive, script_needs, seats_after}

-- Taking.
can-and : (n k : ℕ) (seats : List Seat) (o : Option Answer) → first_answer_at seats k ≡ o
    → CanTake (without_answer_at seats k) (first_answers n (k + 1) (without_answer_at seats k))
    → CanTake seats (and_taken k o (first_answers n (k + 1) (without_answer_at seats k)))
can-and n k seats None is rest =
    subst (λ (xs : List Seat). CanTake xs (first_answers n (k + 1) (without_answer_at seats k))) (unchanged seats k is) rest
can-and n k seats (Some a) is rest = (is, rest)

can-take : (n k : ℕ) (seats : List Seat) → CanTake seats (first_answers n k seats)
can-take zero k seats = tt
can-take (suc n) k seats = can-and n k seats (first_answer_at seats k) refl (can-take n (k + 1) (without_answer_at seats k))

-- Issuing.
is-none : (o : Option Asked) → is_none o ≡ true → IsNone o
is-none None is = refl
is-none (Some a) is = absurd (cc is)

pub request-is : (a : Asked) → is_request a ≡ true → IsRequest a
request-is a is = record { line = grind (arith, nat_tests, is); some_bytes = grind (arith, nat_tests, is); within = grind (arith, nat_tests, is) }

may-parts : (now : ℕ) (seats : List Seat) (i : Issued) → may_be_issued now seats i ≡ true
    → (i.asked.issued ≡ now) × (i.seat < length seats) × (is_request i.asked ≡ true)
may-parts now seats i is = (grind (arith, nat_tests, is), grind (arith, nat_tests, is), grind (arith, nat_tests, is))

can-one : (now : ℕ) (seats : List Seat) (i : Issued) → can_be_issued now seats i ≡ true → CanIssueOne now seats i
can-one now seats i is =
    let parts = and_parts (may_be_issued now seats i) (is_none (outstanding_at seats i.seat i.asked.line)) is in
    let may = may-parts now seats i parts.0 in
    record {
      seat = may.1;
      request = request-is i.asked may.2;
      cycle = may.0;
      free = is-none (outstanding_at seats i.seat i.asked.line) parts.1;
    }

can-first : (now : ℕ) (s : Seating) (i : Issued) (rest : List Issued) (b : Bool) → can_be_issued now s.seats i ≡ b
    → CanIssue now (with_issued s i) (issued_of now (seats_after s.seats i) rest) → CanIssue now s (issued_of now s.seats rest)
    → CanIssue now s (issued_of now s.seats (i ∷ rest))
can-first now s i rest true is then other = rw is (can-one now s.seats i is, then)
can-first now s i rest false is then other = rw is other

can-issue : (now : ℕ) (s : Seating) (is : List Issued) → CanIssue now s (issued_of now s.seats is)
can-issue now s [] = tt
can-issue now s (i ∷ rest) =
    can-first now s i rest (can_be_issued now s.seats i) refl (can-issue now (with_issued s i) rest) (can-issue now s rest)

few-first : (now : ℕ) (seats : List Seat) (i : Issued) (rest : List Issued) (b : Bool) → can_be_issued now seats i ≡ b
    → length (issued_of now (seats_after seats i) rest) ≤ length rest → length (issued_of now seats rest) ≤ length rest
    → length (issued_of now seats (i ∷ rest)) ≤ suc (length rest)
few-first now seats i rest true is then other = rw is (omega arith)
few-first now seats i rest false is then other = rw is (omega arith)

few : (now : ℕ) (seats : List Seat) (is : List Issued) → length (issued_of now seats is) ≤ length is
few now seats [] = omega arith
few now seats (i ∷ rest) =
    few-first now seats i rest (can_be_issued now seats i) refl (few now (seats_after seats i) rest) (few now seats rest)

-- The next request's cycle.
abbrev cycle_at : List Issued → ℕ → Option ℕ
cycle_at is n = option_map (λ (i : Issued). i.asked.issued) (slice_get is n)

abbrev IsLater : ℕ → Option ℕ → Type 0
IsLater now o = IfSome o (λ next. now < next)

ahead-first : (now : ℕ) (i : Issued) (rest : List Issued) (b : Bool) → nat_le i.asked.issued now ≡ b
    → IsLater now (cycle_at rest (count_due now rest)) → IsLater now (cycle_at (i ∷ rest) (count_due now (i ∷ rest)))
ahead-first now i rest true is next = rw is next
ahead-first now i rest false is next = rw is (grind (arith, nat_tests, is))

ahead : (now : ℕ) (is : List Issued) → IsLater now (cycle_at is (count_due now is))
ahead now [] = tt
ahead now (i ∷ rest) = ahead-first now i rest (nat_le i.asked.issued now) refl (ahead now rest)

pub at-drop : (a b : ℕ) (is : List Issued) → slice_get is (a + b) ≡ slice_get (drop a is) b
at-drop zero b is = let e : 0 + b ≡ b = omega arith in ap (λ (n : ℕ). slice_get is n) e
at-drop (suc a) b [] = refl
at-drop (suc a) b (i ∷ rest) =
    let e : suc a + b ≡ suc (a + b) = omega arith in
    ap (λ (n : ℕ). slice_get (i ∷ rest) n) e ∙ at-drop a b rest

pub script_lawful : (d : State) (s : Seating) (now : ℕ) → FitSeats 0 s.seats → now ≤ 10 ^ 12
    → IsLawful (script_needs d now) now s (script_drive d s.seats now)
script_lawful d s now fit within =
    let after : List Seat = after_taking s.seats (first_answers (length s.seats) 0 s.seats) in
    let n : ℕ = count_due now (left d) in
    let most = few now after (due now (left d)) in
    record {
      taken = can-take (length s.seats) 0 s.seats;
      issued = can-issue now (with_seats s after) (due now (left d));
      few = omega (arith, most, length-take n (left d));
      ahead = subst (λ (o : Option Issued). IsLater now (option_map (λ (i : Issued). i.asked.issued) o)) (sym (at-drop d.done n d.requests)) (ahead now (left d));
      finding = tt;
    }

pub script_lasting : (d : State) (seats : List Seat) (now : ℕ) → (◌≡◌ {A = ℕ} 0 0) × (opening (script_drive d seats now).driver ≡ opening d)
script_lasting d seats now = (refl, refl)
