-- The structure of a machine's lines, by the tables that hold them.
use Rattle.std.specs.Prelude.{Option}
use Rattle.slicc_ast.specs.declared.tree.declaration.Structure.{Structure}
use Rattle.slicc_ast.specs.declared.tree.machine.Machine.{Machine}
use Rattle.slicc_plan.specs.Prelude.{directory_structure, entry_structure, tbe_structure}
use Rattle.declared_types.specs.declared.lines.LineSort.{LineSort}
use Rattle.declared_types.specs.declared.lines.LineSort.TheVariants.{Directory, Entry, Tbe}

abbrev pub line_of : Machine → LineSort → Option Structure
line_of m Entry = entry_structure m
line_of m Directory = directory_structure m
line_of m Tbe = tbe_structure m
