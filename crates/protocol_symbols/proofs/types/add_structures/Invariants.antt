use Rattle.std.proofs.Common.{◌≡◌, ◌++◌, flat_map, map, take}
use Rattle.slicc_plan.specs.Prelude.{structure_symbol}
use Rattle.type_numbers.specs.Prelude.{scoped_of, trees_of}
use Rattle.protocol_symbols.proofs.types.add_structures.Given as goal

abbrev pub invariant-loop-d : goal.invariant-loop-d
invariant-loop-d l =
    l.list ≡ l.initial.list ++ flat_map (structure_symbol (trees_of l.types)) (map scoped_of (take l.d-index l.declared))
