use Rattle.std.proofs.Common.{◌≡◌, ◌++◌, flat_map, map, take}
use Rattle.slicc_plan.specs.Prelude.{enumeration_symbol}
use Rattle.type_numbers.specs.Prelude.{scoped_of, trees_of}
use Rattle.protocol_symbols.proofs.types.add_enumerations.Given as goal

abbrev pub invariant-loop-d : goal.invariant-loop-d
invariant-loop-d l =
    l.list ≡ l.initial.list ++ flat_map (enumeration_symbol (trees_of l.types)) (map scoped_of (take l.d-index l.declared))
