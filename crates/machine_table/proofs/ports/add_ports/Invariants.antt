use Rattle.std.proofs.Common.{◌≡◌, ◌++◌, flat_map, map, take}
use Rattle.slicc_plan.specs.Buffers.{port_in}
use Rattle.declared_types.specs.Prelude.{declarations_of}
use Rattle.machine_table.specs.Prelude.{port_seen}
use Rattle.machine_table.proofs.ports.add_ports.Given as goal

abbrev pub invariant-loop-d : goal.invariant-loop-d
invariant-loop-d l =
    map port_seen l.list ≡ map port_seen l.initial.list ++ flat_map (port_in l.scopes.trees.now l.number l.m) (declarations_of (take l.d-index l.declarations))
