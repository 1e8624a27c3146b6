-- Which names of types are those of tables of a sort in a scope of a number.
use Rattle.std.specs.Prelude.{ℕ, Bool, Option, List}
use Rattle.slicc_ast.specs.declared.tree.item.Tree.{Tree}
use Rattle.slicc_plan.specs.declared.built_in.BuiltInType.TheVariants.{Directory as DirectoryType}
use Rattle.slicc_plan.specs.Prelude.{is_table_type, KnownType, is_built_in, type_in}
use Rattle.declared_types.specs.Prelude.{scope_at}
use Rattle.slicc_flow.specs.declared.names.TableSort.{TableSort}
use Rattle.slicc_flow.specs.declared.names.TableSort.TheVariants.{Any, Directory}

abbrev pub is_of_sort : TableSort → Option KnownType → Bool
is_of_sort Any t = is_table_type t
is_of_sort Directory t = is_built_in DirectoryType t

abbrev pub is_sort_name : TableSort → List Tree → ℕ → List ℕ → Bool
is_sort_name sort trees scope kind = is_of_sort sort (type_in trees (scope_at trees scope) kind)
