-- The seats of a topology as a run has them: each with the number of the buffer `mandatoryQueue` of its controller's machine.
use Rattle.std.specs.Prelude.{ℕ, Option, List, map, slice_get, unwrap_or}
use Rattle.std.specs.Option.{option_and_then}
use Rattle.ruby_symbols.specs.declared.symbols.Symbols.{Symbols}
use Rattle.ruby_symbols.specs.Prelude.{mandatory}
use Rattle.ruby_topology.specs.declared.topology.Seat.{Seat}
use Rattle.ruby_topology.specs.declared.topology.Topology.{Topology}
use Rattle.protocol_runs.specs.Prelude.{machine_of, SeatSetup}
use Rattle.protocol_meaning.specs.Setups.{ranges_of}

-- the number of the buffer `mandatoryQueue` of a controller's machine
abbrev pub queue_of : Symbols → (ranges : List (ℕ × ℕ)) → (controller : ℕ) → Option ℕ
queue_of symbols ranges controller =
    option_and_then mandatory (option_and_then (slice_get symbols.machines) (machine_of ranges controller))

-- 0 where the machine has no such buffer; no topology of the protocol has a seat there
abbrev pub seat_setup : Symbols → List (ℕ × ℕ) → Seat → SeatSetup
seat_setup symbols ranges s = record {
  controller = s.controller;
  has_sequencer = s.sequencer;
  queue = unwrap_or (queue_of symbols ranges s.controller) 0;
}

abbrev pub seat_setups : Symbols → Topology → List SeatSetup
seat_setups symbols t = map (seat_setup symbols (ranges_of t)) t.seats
