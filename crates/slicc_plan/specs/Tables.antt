-- The tables of lines of a machine: its caches, directories and TBE tables, parameters and objects alike, numbered from 0 in the
-- order of the text. A TBE table has the entries that its declaration writes, else 16, where no topology says how many.
use Rattle.std.specs.Prelude.{ℕ, cond, Option, None, Some, List, filter_map, unwrap_or, codes}
use Rattle.ruby_symbols.specs.declared.machine.TableSort.{TableSort}
use Rattle.ruby_symbols.specs.declared.machine.TableSort.TheVariants as sort
use Rattle.slicc_ast.specs.declared.tree.declaration.Pairs.{Pairs}
use Rattle.slicc_ast.specs.declared.tree.declaration.Structure.{Structure}
use Rattle.slicc_ast.specs.declared.tree.item.Tree.{Tree}
use Rattle.slicc_ast.specs.declared.tree.machine.Machine.{Machine}
use Rattle.slicc_plan.specs.declared.built_in.BuiltInType.TheVariants.{Cache, Directory, TbeTable}
use Rattle.slicc_plan.specs.Attributes.{first_attribute}
use Rattle.slicc_plan.specs.Buffers.{attribute_number}
use Rattle.slicc_plan.specs.Declarations.{Declaration, parameter, object, within, machine_declarations}
use Rattle.slicc_plan.specs.Machines.{directory_structure, entry_structure, tbe_structure}
use Rattle.slicc_plan.specs.Types.{KnownType, is_built_in, type_in}

abbrev pub written_entries : Pairs → ℕ
written_entries pairs = unwrap_or (attribute_number (first_attribute (codes "entries") pairs)) 16

abbrev pub table_sort : Option KnownType → Pairs → Option TableSort
table_sort t pairs =
    cond (is_built_in Cache t) (Some sort.Cache)
    (cond (is_built_in Directory t) (Some sort.Directory)
    (cond (is_built_in TbeTable t) (Some (sort.Tbe (written_entries pairs))) None))

abbrev pub table_in : List Tree → Machine → Declaration → Option TableSort
table_in trees m (parameter p) = table_sort (type_in trees (within m) p.kind.text) p.pairs
table_in trees m (object o) = table_sort (type_in trees (within m) o.kind.text) o.pairs
table_in trees m _ = None

abbrev pub tables_of : List Tree → Machine → List TableSort
tables_of trees m = filter_map (table_in trees m) (machine_declarations m)

-- the structure of the lines of tables of this sort, where the machine has it
abbrev pub line_structure : Machine → TableSort → Option Structure
line_structure m sort.Cache = entry_structure m
line_structure m sort.Directory = directory_structure m
line_structure m (sort.Tbe written) = tbe_structure m
