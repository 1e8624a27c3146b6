-- Seats that own their sequencers, after one of them has changed.
use Rattle.std.proofs.Common.{◌≡◌, ◌+◌, ◌≤◌, ◌<◌, ℕ, Option, Some, None, List, [], ◌∷◌, length, map, option_map, refl, arith, ap, sym, ◌∙◌, get_or, set}
use Rattle.std.proofs.lemmas.List.{length-map, length-set, map-set}
use Rattle.std.proofs.lemmas.List.Elements.{All-get_or, All-set, All-weaker}
use Rattle.std.proofs.lemmas.Option.{slice_get-map, slice_get_read}
use Rattle.std.proofs.Math.Seq.{map-set_same}
use Rattle.std.specs.List.{All, slice_get}
use Rattle.ruby_value.specs.Prelude.{Roomy, Requests}
use Rattle.sequencer.specs.declared.owned_seat.OwnedSeat.{OwnedSeat}
use Rattle.sequencer.specs.Prelude.{AreOwned, HasRoom, seat_of, seats_of, changed_at, changed_seat}
use Rattle.sequencer.proofs.SeatsAfter.{apart-by, controllers}

controllers-of : (items : List OwnedSeat) → controllers (seats_of items) ≡ map (λ (s : OwnedSeat). s.controller) items
controllers-of [] = refl
controllers-of (s ∷ rest) = ap (λ (cs : List ℕ). s.controller ∷ cs) (controllers-of rest)

fewer-in : (c : ℕ) (o : Option (Roomy Requests)) (more fewer : ℕ) → fewer ≤ more → HasRoom more (record { controller = c; sequencer = o }) → HasRoom fewer (record { controller = c; sequencer = o })
fewer-in c None more fewer le has = tt
fewer-in c (Some q) more fewer le has = omega arith

pub room-for-fewer : (s : OwnedSeat) (more fewer : ℕ) → fewer ≤ more → HasRoom more s → HasRoom fewer s
room-for-fewer s more fewer le has = fewer-in s.controller s.sequencer more fewer le has

pub within-seats : (items : List OwnedSeat) (k : ℕ) → k < length (seats_of items) → k < length items
within-seats items k lt = rw length-map at lt

module _ (items : List OwnedSeat) (k : ℕ) (x : OwnedSeat) (lt : k < length items) (at : x ≡ get_or items k x) where
  pub seat-at : slice_get (seats_of items) k ≡ Some (seat_of x)
  seat-at = slice_get-map seat_of items k ∙ ap (λ (o : Option OwnedSeat). option_map seat_of o) (slice_get_read items (length items) k x refl lt at)

  pub seat-changed : (change : Requests → Requests) (y : OwnedSeat) → seat_of y ≡ changed_seat change (seat_of x) → seats_of (set items k y) ≡ changed_at change (seats_of items) k
  seat-changed change y is = rw seat-at (map-set seat_of items k y ∙ ap (set (seats_of items) k) is)

  pub seat-unchanged : (y : OwnedSeat) → seat_of y ≡ seat_of x → seats_of (set items k y) ≡ seats_of items
  seat-unchanged y is = map-set_same seat_of items k y x (is ∙ ap seat_of at)

  pub has-room-at : (room : ℕ) → All (HasRoom room) items → HasRoom room x
  has-room-at room all = rw at (All-get_or (HasRoom room) items k x lt all)

  pub still-owned : (y : OwnedSeat) (issued places room issued_after places_after room_after : ℕ) → AreOwned items issued places room → y.controller ≡ x.controller
      → room_after ≤ room → (HasRoom room x → HasRoom room_after y) → issued_after + room_after ≤ places_after → AreOwned (set items k y) issued_after places_after room_after
  still-owned y issued places room issued_after places_after room_after are own le keeps enough =
      let as_many : length (set items k y) ≡ length items = length-set items k y in
      let same : controllers (seats_of (set items k y)) ≡ controllers (seats_of items) =
      controllers-of (set items k y) ∙ map-set_same (λ (s : OwnedSeat). s.controller) items k y x (own ∙ ap (λ (s : OwnedSeat). s.controller) at) ∙ sym (controllers-of items) in
      record {
        few = omega (arith, are.few);
        apart = apart-by (seats_of items) (seats_of (set items k y)) same are.apart;
        each_has_room = All-set (HasRoom room_after) items k y (keeps (has-room-at room are.each_has_room))
            (All-weaker (HasRoom room) (HasRoom room_after) (λ s has. room-for-fewer s room room_after le has) items are.each_has_room);
        places_for_issued = enough;
      }
