-- The answers of seats from a seat on: what taking one there, or finding none, makes of them.
use Rattle.std.specs.Prelude.{◌≡◌, ◌<◌, ◌+◌, ℕ, zero, suc, Option, None, Some, List, [], ◌∷◌, ◌++◌, length, map, drop, slice_get, refl}
use Rattle.std.proofs.Common.{arith, ap, sym, ◌∙◌}
use Rattle.std.specs.Option.{option_and_then, option_map}
use Rattle.ruby_value.specs.declared.asked.Answer.{Answer}
use Rattle.ruby_value.specs.Prelude.{Requests, first_of, rest_of, without_first_answer}
use Rattle.sequencer.specs.Prelude.{Seat, changed_seat, controller_at, first_answer_at, without_answer_at}
use Rattle.sequencer.proofs.SeatsAfter.{further}
use Rattle.random_tester.specs.Turn.{Finished, finished_at, finished_from}

abbrev seat_of : ℕ → Option Requests → Seat
seat_of c o = record { controller = c; requests = o }

abbrev pub from : ℕ → List Seat → List Finished
from k seats = finished_from k (drop k seats)

abbrev answer_at : ℕ → ℕ → Answer → Finished
answer_at k c a = record { seat = k; controller = c; answer = a }

some-is : {X : Type 0} (x y : X) → Some x ≡ Some y → x ≡ y
some-is x y same = cc same

-- the first seat of a list
taken-of : (m c : ℕ) (answers : List Answer) (a : Answer) → first_of answers ≡ Some a
    → map (answer_at m c) answers ≡ answer_at m c a ∷ map (answer_at m c) (rest_of answers)
taken-of m c [] a is = absurd (cc is)
taken-of m c (b ∷ rest) a is = ap (λ (x : Answer). answer_at m c x ∷ map (answer_at m c) rest) (some-is b a is)

taken-here : (m c : ℕ) (o : Option Requests) (a : Answer) → option_and_then (λ (r : Requests). first_of r.finished) o ≡ Some a
    → finished_at m (seat_of c o) ≡ answer_at m c a ∷ finished_at m (seat_of c (option_map without_first_answer o))
taken-here m c None a is = absurd (cc is)
taken-here m c (Some r) a is = taken-of m c r.finished a is

none-of : (m c : ℕ) (answers : List Answer) → first_of answers ≡ None → map (answer_at m c) answers ≡ []
none-of m c [] is = refl
none-of m c (b ∷ rest) is = absurd (cc is)

none-here : (m c : ℕ) (o : Option Requests) → option_and_then (λ (r : Requests). first_of r.finished) o ≡ None → finished_at m (seat_of c o) ≡ []
none-here m c None is = refl
none-here m c (Some r) is = none-of m c r.finished is

pub taken-at : (seats : List Seat) (k m c : ℕ) (a : Answer) → first_answer_at seats k ≡ Some a → controller_at seats k ≡ Some c
    → finished_from m (drop k seats) ≡ answer_at m c a ∷ finished_from m (drop k (without_answer_at seats k))
taken-at [] k m c a is of = absurd (cc is)
taken-at (s ∷ rest) zero m c a is of =
    let own : s.controller ≡ c = some-is s.controller c of in
    ap (λ (xs : List Finished). xs ++ finished_from (m + 1) rest) (taken-here m s.controller s.requests a is)
    ∙ ap (λ (x : ℕ). answer_at m x a ∷ (finished_at m (changed_seat without_first_answer s) ++ finished_from (m + 1) rest)) own
taken-at (s ∷ rest) (suc k) m c a is of =
    taken-at rest k m c a is of
    ∙ ap (λ (xs : List Seat). answer_at m c a ∷ finished_from m (drop (suc k) xs))
    (sym (further s rest k (option_map (changed_seat without_first_answer) (slice_get rest k))))

pub none-at : (seats : List Seat) (k m : ℕ) → k < length seats → first_answer_at seats k ≡ None
    → finished_from m (drop k seats) ≡ finished_from (m + 1) (drop (suc k) seats)
none-at [] k m lt is = absurd (omega arith)
none-at (s ∷ rest) zero m lt is = ap (λ (xs : List Finished). xs ++ finished_from (m + 1) rest) (none-here m s.controller s.requests is)
none-at (s ∷ rest) (suc k) m lt is = none-at rest k m (omega arith) is
