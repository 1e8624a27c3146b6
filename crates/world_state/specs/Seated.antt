-- The places of controllers after other requests were put into the sequencers of a driver's seats, each seat's into the sequencer of its
-- controller. A seat without a sequencer changes nothing.
use Rattle.std.specs.Prelude.{ℕ, ◌≢◌, Option, None, Some, IsSome, IsSomeAnd, List, [], ◌∷◌, map, slice_get, slice_set, if◌then◌else◌}
use Rattle.ruby_value.specs.Prelude.{Requests}
use Rattle.protocol_runs.specs.World as runs
use Rattle.ctl_face.specs.Prelude.{Ctl}
use Rattle.protocol_runs.specs.Prelude.{SeatSetup}
use Rattle.sequencer.specs.Prelude.{Seat}
use Rattle.world_state.specs.Places.{Made}
use Rattle.world_state.specs.declared.seat.SeatAt.{SeatAt}

abbrev pub setup_of : SeatAt → SeatSetup
setup_of a = record { controller = a.controller; has_sequencer = a.has_sequencer; queue = a.queue }

abbrev pub setups_in : List SeatAt → List SeatSetup
setups_in seats = map setup_of seats

abbrev pub AreApart : SeatAt → SeatAt → Type 0
AreApart a b = a.controller ≢ b.controller

abbrev pub controllers_in : List (runs.Place Ctl) → List Ctl
controllers_in places = map (λ (p : runs.Place Ctl). p.controller) places

abbrev pub with_requests : Option Requests → runs.Place Ctl → runs.Place Ctl
with_requests o p = record p { controller = record p.controller { sequencer = o } }

abbrev pub with_requests_at : ℕ → Option Requests → List (runs.Place Ctl) → Option (runs.Place Ctl) → List (runs.Place Ctl)
with_requests_at c o places None = places
with_requests_at c o places (Some p) = slice_set places c (with_requests o p)

abbrev pub seated_one : SeatAt → List (runs.Place Ctl) → Option Requests → List (runs.Place Ctl)
seated_one a places o =
    if a.has_sequencer then with_requests_at a.controller o places (slice_get places a.controller) else places

abbrev pub seated : List SeatAt → List (runs.Place Ctl) → List Seat → List (runs.Place Ctl)
seated [] places seats = places
seated (a ∷ ss) places [] = places
seated (a ∷ ss) places (q ∷ qs) = seated ss (seated_one a places q.requests) qs

-- the controller of this number is there, and nobody holds it
abbrev pub IsHomeIn : List (Option Made) → ℕ → Type 0
IsHomeIn mades c = IsSomeAnd (slice_get mades c) (λ (o : Option Made). IsSome o)
