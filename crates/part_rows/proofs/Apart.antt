-- Seats whose controllers ascend are apart.
use Rattle.std.proofs.Common.{◌≤◌, ◌<◌, ℕ, List, [], ◌∷◌, ◌++◌, arith}
use Rattle.std.proofs.lemmas.List.{map-append}
use Rattle.std.proofs.lemmas.List.Elements.{All-cons, All-map, All-nil, All-push, All-weaker}
use Rattle.std.proofs.lemmas.List.Kept.{AllPairs-cons}
use Rattle.std.specs.List.{All, AllPairs}
use Rattle.ruby_value.proofs.Ordered.{AllPairs-append, AllPairs-nil}
use Rattle.sequencer.specs.declared.owned_seat.OwnedSeat.{OwnedSeat}
use Rattle.sequencer.specs.Prelude.{seat_of, seats_of, AreApart, Seat}

-- each controller's number is below this one
abbrev pub AreBelow : ℕ → List OwnedSeat → Type 0
AreBelow n items = All (λ (s : OwnedSeat). s.controller < n) items

pub below-more : (items : List OwnedSeat) (n m : ℕ) (s : OwnedSeat) → AreBelow n items → n ≤ m → s.controller < m → AreBelow m (items ++ s ∷ [])
below-more items n m s below le lt =
    All-push (λ (o : OwnedSeat). o.controller < m) items s
    (All-weaker (λ (o : OwnedSeat). o.controller < n) (λ (o : OwnedSeat). o.controller < m) (λ o is. omega arith) items below) lt

from-one : (s : Seat) (o : OwnedSeat) (n : ℕ) → n ≤ s.controller → o.controller < n → All (AreApart (seat_of o)) (s ∷ [])
from-one s o n le lt = All-cons (AreApart (seat_of o)) s [] (λ same. omega arith) (All-nil (AreApart (seat_of o)))

pub apart-more : (items : List OwnedSeat) (n : ℕ) (s : OwnedSeat) → AreBelow n items → AllPairs AreApart (seats_of items) → n ≤ s.controller → AllPairs AreApart (seats_of (items ++ s ∷ []))
apart-more items n s below apart le =
    rw map-append
    (AllPairs-append AreApart (seats_of items) (seat_of s ∷ []) apart
    (AllPairs-cons AreApart (seat_of s) [] (All-nil (AreApart (seat_of s))) (AllPairs-nil AreApart))
    (All-map (λ (x : Seat). All (AreApart x) (seat_of s ∷ [])) seat_of items
    (All-weaker (λ (o : OwnedSeat). o.controller < n) (λ (o : OwnedSeat). All (AreApart (seat_of o)) (seat_of s ∷ [])) (λ o lt. from-one (seat_of s) o n le lt) items below)))
