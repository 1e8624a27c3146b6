use Rattle.std.proofs.Common.{◌≡◌, ◌++◌, take}
use Rattle.std.specs.List.{filter_map}
use Rattle.ruby_topology.specs.Prelude.{slot_in}
use Rattle.ruby_topology.proofs.routes.add_slots.Given as goal

abbrev pub invariant-loop-s : goal.invariant-loop-s
invariant-loop-s l = l.all ≡ l.initial.all ++ filter_map (slot_in l.controller l.machine) (take l.s-index l.said)
