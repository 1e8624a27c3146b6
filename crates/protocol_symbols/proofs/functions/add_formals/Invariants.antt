use Rattle.std.proofs.Common.{◌≡◌, ◌++◌, map, take}
use Rattle.slicc_plan.specs.Prelude.{formal_symbol}
use Rattle.type_numbers.specs.Prelude.{trees_of}
use Rattle.protocol_symbols.proofs.functions.add_formals.Given as goal

abbrev pub invariant-loop-f : goal.invariant-loop-f
invariant-loop-f l =
    l.list ≡ l.initial.list ++ map (formal_symbol (trees_of l.types) l.m) (take l.f-index l.formals)
