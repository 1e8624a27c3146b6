use Rattle.std.proofs.Common.{◌≡◌, ◌++◌, take, flat_map}
use Rattle.slicc_plan.specs.Prelude.{item_declarations}
use Rattle.declared_types.specs.Prelude.{declarations_of}
use Rattle.declared_types.proofs.lists.add_items.Given as goal

abbrev pub invariant-loop-item : goal.invariant-loop-item
invariant-loop-item l = declarations_of l.list ≡ declarations_of l.fn.list ++ flat_map item_declarations (take l.item-index l.items)
