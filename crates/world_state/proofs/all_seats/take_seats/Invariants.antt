use Rattle.std.proofs.Common.{◌≡◌, ◌+◌, ◌≤◌, ℕ, List, Some, length, slice_get, take, vec_capacity, vec_len}
use Rattle.ctl_face.specs.Prelude.{Ctl}
use Rattle.protocol_runs.specs.Prelude.{seats_in}
use Rattle.sequencer.specs.Prelude.{seats_of, Seat}
use Rattle.world_state.specs.Prelude.{made_in, places_with, controllers_in, seated, setups_in}
use Rattle.world_state.specs.declared.seat.SeatAt.{SeatAt}
use Rattle.world_state.proofs.all_seats.take_seats.Given as goal

-- the sequencers of the seats before this one are out, and those of the others are as they were
abbrev pub invariant-loop-a : goal.invariant-loop-a
invariant-loop-a l = record {
  out : (held : Ctl) → seats_of l.out.items ≡ seats_in (setups_in (take l.a-index l.seats)) (controllers_in (places_with held l.fn.places.items));
  rest :
      (held : Ctl) (put : List Seat) → length put ≡ length l.seats
      → seated l.seats (places_with held l.places.items) put ≡ seated l.seats (places_with held l.fn.places.items) put;
  later :
      (held : Ctl) (k : ℕ) (a : SeatAt) → l.a-index ≤ k → slice_get l.seats k ≡ Some a
      → slice_get (places_with held l.places.items) a.controller ≡ slice_get (places_with held l.fn.places.items) a.controller;
  made : made_in l.places.items ≡ made_in l.fn.places.items;
  room : vec_len l.out + length l.seats ≤ vec_capacity l.out + l.a-index;
}
