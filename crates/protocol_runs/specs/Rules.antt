-- What a run of a protocol goes by: the controllers of its machines, in the order of their numbers, each as a run begins; their
-- scans; and the driver, by what it does at its seats in a cycle. What goes between controllers is a parcel: a message, which has a
-- number and goes into an inbox, or a credit, which has none and goes to its receiver's credits. The scan of a number that is no
-- controller's rests; no run has one.
use Rattle.std.specs.Prelude.{ℕ, Bool, false, Option, None, Some, List, [], ◌∷◌, ◌++◌, length, map, replicate, is_some, slice_get}
use Rattle.ruby_value.specs.declared.setup.MachineSetup.{MachineSetup}
use Rattle.protocol_runs.specs.RunRules.{DriverTurn, Idle, Mailed, Rules, Scan}
use Rattle.ctl_face.specs.declared.parcel.Parcel.{Parcel}
use Rattle.ctl_face.specs.Prelude.{at_cycle, parcel_arrival, with_one_fired, with_parcel, with_stop, with_wake_up, Ctl, InboxMessage, opening_ctl, scan_view}
use Rattle.sequencer.specs.Prelude.{Drive, Seat}
use Rattle.protocol_runs.specs.Machines.{actor_of, machine_of}
use Rattle.protocol_runs.specs.Meaning.{Meaning}
use Rattle.protocol_runs.specs.Parcels.{parcel_numbers}
use Rattle.protocol_runs.specs.Requests.{request_messages}
use Rattle.protocol_runs.specs.Setting.{Setting}
use Rattle.protocol_runs.specs.Turn.{seats_in, served}

-- the controllers of machines, by how many each has
abbrev pub opening_controllers : List MachineSetup → List (ℕ × ℕ) → List Ctl
opening_controllers [] ranges = []
opening_controllers (m ∷ machines) [] = []
opening_controllers (m ∷ machines) (r ∷ ranges) = replicate r.1 (opening_ctl m) ++ opening_controllers machines ranges

abbrev pub resting : Ctl → Scan Ctl Parcel
resting x = record { outcome = Idle x; tried = [] }

abbrev pub mailed : InboxMessage → Mailed
mailed o = record { number = o.message.number; waits = is_some o.waiting; recycled = o.message.recycled }

module _ {D : Type 0} (p : Meaning) (drive : D → List Seat → ℕ → Drive D) (s : Setting D) where
  -- the scan of a controller of the machine of this number, with this setup
  abbrev pub scan_by : (controller : ℕ) → Ctl → (now machine : ℕ) → Option MachineSetup → Scan Ctl Parcel
  scan_by controller x now machine None = resting x
  scan_by controller x now machine (Some m) = p.scan machine (scan_view m (actor_of s controller) now x) s.limit

  abbrev pub scan_of : (controller : ℕ) → Ctl → (now : ℕ) → Option ℕ → Scan Ctl Parcel
  scan_of controller x now None = resting x
  scan_of controller x now (Some machine) = scan_by controller x now machine (slice_get s.machines machine)

  abbrev pub has_row_of : Option ℕ → (state event : ℕ) → Bool
  has_row_of None state event = false
  has_row_of (Some machine) state event = p.has_row machine state event

  abbrev pub opening_of : List Ctl
  opening_of = opening_controllers s.machines s.ranges

  -- a driver's turn, by what it does at its seats, where it has issued n requests before
  abbrev pub turn_of : (now issued : ℕ) → Drive D → DriverTurn Ctl Parcel D
  turn_of now issued d = record {
    driver = d.driver;
    controller_after = λ c x. served s.seats c d x;
    requests = request_messages s.seats (length opening_of) issued now d.issued;
    finding = d.finding;
    next = d.next;
  }

  abbrev pub rules : Rules Ctl Parcel D
  rules = record {
    controllers = opening_of;
    driver = s.driver;
    cycles = s.cycles;
    scan = λ c x now. scan_of c x now (machine_of s.ranges c);
    has_row = λ c state event. has_row_of (machine_of s.ranges c) state event;
    driver_turn = λ d xs now issued. turn_of now issued (drive d (seats_in s.seats xs) now);
    with_message = with_parcel;
    with_mark = with_wake_up;
    with_one_fired = with_one_fired;
    with_stop = λ x at. with_stop x;
    at_cycle = at_cycle;
    marks = λ x. x.mail.marks;
    stopped = λ x. x.stopped;
    mail = λ x. map mailed x.mail.inbox;
    sent = λ x. x.mail.sent;
    numbers = parcel_numbers;
    arrival = parcel_arrival;
  }
