use Rattle.std.proofs.Common.{◌≡◌, map}
use Rattle.std.specs.List.{range_with_len}
use Rattle.ruby_topology.specs.Prelude.{receiving_at}
use Rattle.ruby_topology.proofs.routes.receiving_of.Given as goal

abbrev pub invariant-loop-network : goal.invariant-loop-network
invariant-loop-network l = l.buffers ≡ map (receiving_at l.symbols l.machine) (range_with_len 0 l.network)
