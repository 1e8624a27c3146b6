-- What a run of a protocol begins with, by its trees, a topology, the options of the run and its driver: what each machine is to its
-- controllers, with the sizes that the topology sets; the controllers' numbers, machine by machine; the topology's routes; and its
-- seats, each with the buffer `mandatoryQueue` of the machine of its controller.
use Rattle.std.specs.Prelude.{ℕ, List}
use Rattle.slicc_ast.specs.declared.tree.item.Tree.{Tree}
use Rattle.slicc_plan.specs.Prelude.{symbols_of}
use Rattle.ruby_topology.specs.declared.topology.Topology.{Topology}
use Rattle.protocol_meaning.specs.Seats.{seat_setups}
use Rattle.protocol_meaning.specs.Setups.{ranges_of, setups_of}
use Rattle.protocol_runs.specs.Prelude.{Setting}

abbrev pub setting_of : {D : Type 0} → List Tree → Topology → (seed cycles limit : ℕ) → D → Setting D
setting_of trees t seed cycles limit driver = record {
  machines = setups_of trees t.sizes;
  ranges = ranges_of t;
  routes = t.routes;
  seed = seed;
  cycles = cycles;
  limit = limit;
  seats = seat_setups (symbols_of trees) t;
  driver = driver;
}
