use Rattle.std.proofs.Common.{◌≡◌, map}
use Rattle.std.specs.List.{range_with_len}
use Rattle.ruby_topology.specs.Prelude.{sizes_of}
use Rattle.ruby_topology.proofs.routes.sizes.Given as goal

abbrev pub invariant-loop-machine : goal.invariant-loop-machine
invariant-loop-machine l = l.sizes ≡ map (sizes_of l.ranges l.said) (range_with_len 0 l.machine)
