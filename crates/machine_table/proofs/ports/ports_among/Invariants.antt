use Rattle.std.proofs.Common.{◌≡◌, map, take}
use Rattle.slicc_plan.specs.Prelude.{all_ports_from}
use Rattle.machine_table.specs.Prelude.{port_seen}
use Rattle.machine_table.proofs.ports.ports_among.Given as goal

abbrev pub invariant-loop-number : goal.invariant-loop-number
invariant-loop-number l =
    map port_seen l.list ≡ all_ports_from l.scopes.trees.now 0 (map (λ m. m.now) (take l.number l.machines))
