use Rattle.std.proofs.Common.{◌≡◌, drop, find, map}
use Rattle.slicc_plan.specs.Prelude.{is_on, port_message}
use Rattle.machine_table.specs.Prelude.{buffer_seen, port_seen}
use Rattle.type_numbers.proofs.buffers.own_message.Given as goal

abbrev pub invariant-loop-p : goal.invariant-loop-p
invariant-loop-p l =
    port_message (find (is_on l.number (buffer_seen l.b)) (map port_seen l.ports)) ≡ port_message (find (is_on l.number (buffer_seen l.b)) (map port_seen (drop l.p-index l.ports)))
