-- Seats that own their sequencers: the seats that a driver sees there, and for how many more requests there is room at each.
use Rattle.std.specs.Prelude.{ℕ, ◌+◌, ◌≤◌, ◌<◌, ◌^◌, IfSome, List, length, map}
use Rattle.std.specs.List.{All, AllPairs}
use Rattle.std.specs.Option.{option_map}
use Rattle.ruby_value.specs.Prelude.{Roomy, Requests}
use Rattle.sequencer.specs.declared.owned_seat.OwnedSeat.{OwnedSeat}
use Rattle.sequencer.specs.Seats.{AreApart, Seat}

-- the seat with the requests of its sequencer, if it has one
abbrev pub seat_of : OwnedSeat → Seat
seat_of s = record { controller = s.controller; requests = option_map (λ (q : Roomy Requests). q.kept) s.sequencer }

abbrev pub seats_of : List OwnedSeat → List Seat
seats_of seats = map seat_of seats

-- there is room for so many more requests, or for any number where there is no sequencer
abbrev pub HasRoom : ℕ → OwnedSeat → Type 0
HasRoom requests s = IfSome s.sequencer (λ (q : Roomy Requests). requests ≤ q.room)

-- What always holds of them, with the requests that were issued and the places for these in memory: no two seats are at one
-- controller, and there is room for so many more requests, at whatever seats.
pub record AreOwned (seats : List OwnedSeat) (issued places room : ℕ) : Type 0 where
  pub few : length seats < 2 ^ 32
  pub apart : AllPairs AreApart (seats_of seats)
  pub each_has_room : All (HasRoom room) seats
  pub places_for_issued : issued + room ≤ places
