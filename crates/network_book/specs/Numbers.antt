-- The number of an event, by which a turn lock knows it: its kind times 2^16, and its worker times 2^8, and its controller, which is 0 for
-- a turn. So the owner of the number is the worker. Workers and controllers are below 256, and then the number tells the event. That
-- events have numbers is this project's own.
use Rattle.std.specs.Prelude.{◌<◌, ◌+◌, ◌*◌, ◌/◌, ◌%◌, ℕ, zero, suc, List, map}
use Rattle.run_journal.specs.declared.event.Event.{Event}
use Rattle.run_journal.specs.declared.event.Event.TheVariants.{Take, Fire, Done, Release, Turn}
use Rattle.turn_lock.specs.Prelude.{owner}

abbrev pub kind_of : Event → ℕ
kind_of (Take worker controller) = 0
kind_of (Fire worker controller) = 1
kind_of (Done worker controller) = 2
kind_of (Release worker controller) = 3
kind_of (Turn worker) = 4

abbrev pub worker_of : Event → ℕ
worker_of (Take worker controller) = worker
worker_of (Fire worker controller) = worker
worker_of (Done worker controller) = worker
worker_of (Release worker controller) = worker
worker_of (Turn worker) = worker

abbrev pub controller_of : Event → ℕ
controller_of (Take worker controller) = controller
controller_of (Fire worker controller) = controller
controller_of (Done worker controller) = controller
controller_of (Release worker controller) = controller
controller_of (Turn worker) = 0

pub record IsSmall (e : Event) : Type 0 where
  pub worker : worker_of e < 256
  pub controller : controller_of e < 256

abbrev pub number_of : Event → ℕ
number_of e = kind_of e * 65536 + worker_of e * 256 + controller_of e

-- the event of this kind, by this worker, of this controller
abbrev pub event_by : (kind worker controller : ℕ) → Event
event_by zero worker controller = Take worker controller
event_by (suc zero) worker controller = Fire worker controller
event_by (suc (suc zero)) worker controller = Done worker controller
event_by (suc (suc (suc zero))) worker controller = Release worker controller
event_by (suc (suc (suc (suc kind)))) worker controller = Turn worker

abbrev pub event_of : ℕ → Event
event_of n = event_by (n / 65536) (owner n) (n % 256)

abbrev pub numbers_of : List Event → List ℕ
numbers_of history = map number_of history

abbrev pub events_of : List ℕ → List Event
events_of numbers = map event_of numbers
