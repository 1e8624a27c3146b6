use Rattle.std.proofs.Common.{◌≡◌, drop, map}
use Rattle.machine_table.specs.Prelude.{port_seen}
use Rattle.type_numbers.specs.Prelude.{network_type_among}
use Rattle.type_numbers.proofs.buffers.network_message.Given as goal

abbrev pub invariant-loop-p : goal.invariant-loop-p
invariant-loop-p l = network_type_among (map port_seen l.ports) l.network ≡ network_type_among (map port_seen (drop l.p-index l.ports)) l.network
