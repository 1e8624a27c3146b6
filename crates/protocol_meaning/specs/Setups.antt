-- What all machines of a protocol are to their controllers, with the sizes that a topology sets: the first sizes are those of the
-- first machine, and so on, in the order of the protocol's text. The numbers of a machine's controllers follow on those of the
-- machine before it.
use Rattle.std.specs.Prelude.{ℕ, List}
use Rattle.std.specs.List.{enumerate_from, filter_map}
use Rattle.ruby_value.specs.declared.setup.MachineSetup.{MachineSetup}
use Rattle.ruby_value.specs.declared.setup.Sizes.{Sizes}
use Rattle.slicc_ast.specs.declared.tree.item.Tree.{Tree}
use Rattle.slicc_plan.specs.Prelude.{setup_of}
use Rattle.ruby_topology.specs.declared.topology.Topology.{Topology}
use Rattle.ruby_topology.specs.Prelude.{ranges_from}

abbrev pub setups_of : List Tree → List Sizes → List MachineSetup
setups_of trees sizes = filter_map (λ (n : ℕ × Sizes). setup_of trees n.0 n.1) (enumerate_from 0 sizes)

-- the first controller of each machine and how many it has
abbrev pub ranges_of : Topology → List (ℕ × ℕ)
ranges_of t = ranges_from 0 t.counts
