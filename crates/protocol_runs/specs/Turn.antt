-- The driver's turn among the controllers of a run. It acts at its seats: each shows the driver the number of its controller and,
-- where the seat has a sequencer, that controller's requests and answers. The answers that it takes go out of the controllers'
-- sequencers, and the requests that it issues come into them, each at its seat; a seat without a sequencer changes no controller.
-- The messages of the requests are told elsewhere. Drivers are this project's own.
use Rattle.std.specs.Prelude.{ℕ, Bool, false, ◌==◌, ◌&&◌, Option, None, Some, List, [], ◌∷◌, ◌++◌, map, slice_get, if◌then◌else◌}
use Rattle.std.specs.List.{flat_map}
use Rattle.std.specs.Option.{option_and_then}
use Rattle.ctl_face.specs.Prelude.{DriverAct, Issues, Takes, after_driver_acts, Ctl}
use Rattle.sequencer.specs.declared.issued.Issued.{Issued}
use Rattle.sequencer.specs.Prelude.{Drive, Taken, Seat}
use Rattle.protocol_runs.specs.Setting.{SeatSetup}

-- a seat with this controller
abbrev pub seat_with : SeatSetup → Ctl → Seat
seat_with s x = record { controller = s.controller; requests = if s.has_sequencer then x.sequencer else None }

-- a seat among these controllers
abbrev pub seat_in : List Ctl → SeatSetup → Seat
seat_in controllers s = record {
  controller = s.controller;
  requests = if s.has_sequencer then option_and_then (λ (x : Ctl). x.sequencer) (slice_get controllers s.controller) else None;
}

abbrev pub seats_in : List SeatSetup → List Ctl → List Seat
seats_in seats controllers = map (seat_in controllers) seats

-- this is a seat with the sequencer of this controller
abbrev pub is_seat_of : ℕ → Option SeatSetup → Bool
is_seat_of controller None = false
is_seat_of controller (Some s) = s.has_sequencer && s.controller == controller

module _ (seats : List SeatSetup) (controller : ℕ) where
  abbrev pub taken_at : Taken → List DriverAct
  taken_at t = if is_seat_of controller (slice_get seats t.seat) then Takes ∷ [] else []

  abbrev pub issued_at : Issued → List DriverAct
  issued_at i = if is_seat_of controller (slice_get seats i.seat) then Issues i.asked ∷ [] else []

  -- what the turn does to the controller of this number, and that controller afterwards
  abbrev pub acts_at : {D : Type 0} → Drive D → List DriverAct
  acts_at d = flat_map taken_at d.taken ++ flat_map issued_at d.issued

  abbrev pub served : {D : Type 0} → Drive D → Ctl → Ctl
  served d x = after_driver_acts x (acts_at d)
