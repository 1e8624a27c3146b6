use Rattle.std.proofs.Common.{◌≡◌, ◌++◌, drop, map, take}
use Rattle.slicc_plan.specs.Prelude.{machines_from, written_of}
use Rattle.type_numbers.specs.Prelude.{trees_of}
use Rattle.protocol_symbols.proofs.protocol.add_machines.Given as goal

abbrev pub invariant-loop-number : goal.invariant-loop-number
invariant-loop-number l = record {
  list : l.list ≡ l.initial.list ++ machines_from (trees_of l.types) 0 (map (λ m. m.now) (take l.number l.machines));
  left : l.left ≡ map written_of (map (λ m. m.now) (drop l.number l.machines));
}
