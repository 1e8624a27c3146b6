-- Sorts of lines.
use Rattle.std.specs.Prelude.{Bool}
use Rattle.slicc_ast.specs.declared.tree.declaration.Structure.{Structure}
use Rattle.slicc_plan.specs.Prelude.{is_directory_entry, is_entry, is_tbe}
use Rattle.declared_types.specs.declared.lines.LineSort.{LineSort}
use Rattle.declared_types.specs.declared.lines.LineSort.TheVariants.{Directory, Entry, Tbe}

-- the structure is that of lines of this sort, if it is the first such
abbrev pub is_of_sort : LineSort → Structure → Bool
is_of_sort Entry s = is_entry s
is_of_sort Directory s = is_directory_entry s
is_of_sort Tbe s = is_tbe s
