use Rattle.std.proofs.Common.{◌≡◌, ◌++◌, flat_map, take}
use Rattle.slicc_plan.specs.Prelude.{field_symbol}
use Rattle.declared_types.specs.Prelude.{scope_of}
use Rattle.type_numbers.specs.Prelude.{trees_of}
use Rattle.type_numbers.proofs.fields.add_fields.Given as goal

abbrev pub invariant-loop-member : goal.invariant-loop-member
invariant-loop-member l =
    l.list ≡ l.initial.list ++ flat_map (field_symbol (trees_of l.types) (scope_of l.scope)) (take l.member-index l.members)
