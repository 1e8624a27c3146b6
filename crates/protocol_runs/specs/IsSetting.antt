-- What a setting must be for the laws of runs to hold: its machines are as they may be, its ranges of controllers are those of
-- the machines and follow on one another, its routes fit, the run goes no further than the last cycle of any run, and the driver
-- has the seats that it needs, each at another controller and with the buffer `mandatoryQueue` of that controller's machine,
-- which is the controller's own and takes the messages of requests.
use Rattle.std.specs.Prelude.{◌≡◌, ◌≢◌, ◌≤◌, ℕ, IsSomeAnd, length, slice_get}
use Rattle.std.specs.List.{All, AllPairs}
use Rattle.ruby_value.specs.declared.setup.BufferPlace.TheVariants as place
use Rattle.ruby_value.specs.declared.setup.BufferSetup.{BufferSetup}
use Rattle.ruby_value.specs.declared.setup.MachineSetup.{MachineSetup}
use Rattle.ctl_face.specs.Prelude.{last_cycle, IsMachine, RoutesFit}
use Rattle.protocol_runs.specs.Machines.{setup_of}
use Rattle.protocol_runs.specs.Requests.{request_kinds}
use Rattle.protocol_runs.specs.Setting.{SeatSetup, Setting}

-- the buffer is the controller's own and its messages are of the type `RubyRequest`
pub record TakesRequests (b : BufferSetup) : Type 0 where
  pub own : b.place ≡ place.Local
  pub kinds : b.kinds ≡ request_kinds

abbrev pub HasQueue : (queue : ℕ) → MachineSetup → Type 0
HasQueue queue m = IsSomeAnd (slice_get m.buffers queue) TakesRequests

abbrev pub AreApart : SeatSetup → SeatSetup → Type 0
AreApart a b = a.controller ≢ b.controller

-- by how many seats a driver needs
pub record IsSetting {D : Type 0} (least : D → ℕ) (s : Setting D) : Type 0 where
  pub machines : All IsMachine s.machines
  pub routes : RoutesFit s.machines s.ranges s.routes
  pub cycles : s.cycles ≤ last_cycle
  pub enough : least s.driver ≤ length s.seats
  pub apart : AllPairs AreApart s.seats
  pub queues : All (λ (x : SeatSetup). IsSomeAnd (setup_of s x.controller) (HasQueue x.queue)) s.seats
