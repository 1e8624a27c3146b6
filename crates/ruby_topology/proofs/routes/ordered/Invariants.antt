use Rattle.std.proofs.Common.{◌≡◌, map}
use Rattle.std.specs.List.{range_with_len}
use Rattle.ruby_topology.specs.Prelude.{is_ordered_on}
use Rattle.ruby_topology.proofs.routes.ordered.Given as goal

abbrev pub invariant-loop-network : goal.invariant-loop-network
invariant-loop-network l = l.ordered ≡ map (is_ordered_on l.symbols l.said) (range_with_len 0 l.network)
