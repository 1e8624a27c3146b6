-- The machines that are declared among the items of a file, in the order of the text.
use Rattle.std.specs.Prelude.{List, flat_map}
use Rattle.slicc_ast.specs.declared.tree.item.Item.{Item}
use Rattle.slicc_ast.specs.declared.tree.machine.Machine.{Machine}
use Rattle.slicc_plan.specs.Declarations.{item_declarations, machine_in}

abbrev pub machines_among : List Item → List Machine
machines_among items = flat_map machine_in (flat_map item_declarations items)
