use Rattle.std.proofs.Common.{◌≡◌, ◌++◌, drop}
use Rattle.std.specs.List.{enumerate_from, filter_map}
use Rattle.ruby_topology.specs.Prelude.{seat_of, seats_of}
use Rattle.ruby_topology.proofs.routes.seats.Given as goal

abbrev pub invariant-loop-number : goal.invariant-loop-number
invariant-loop-number l =
    l.seats ++ filter_map (seat_of l.symbols) (enumerate_from l.number (drop l.number l.members)) ≡ seats_of l.symbols l.members
