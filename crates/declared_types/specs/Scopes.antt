-- What is declared in a scope, and how the first declaration of a name is found there.
use Rattle.std.specs.Prelude.{◌≡◌, ℕ, Bool, false, List, map}
use Rattle.std.specs.Str.{bytes_eq}
use Rattle.std.specs.List.{slice_index_or}
use Rattle.slicc_ast.specs.declared.tree.item.Tree.{Tree}
use Rattle.slicc_ast.specs.declared.tree.machine.Machine.{Machine}
use Rattle.slicc_plan.specs.Prelude.{Declaration, Scope, everywhere, within, declared_in, machine_declarations, wide_scopes}
use Rattle.declared_types.specs.declared.table.Table.{Table}
use Rattle.declared_types.specs.Lent.{declarations_of, scope_of}

-- a scope, and what is declared right in it
pub record ScopeTable : Type 0 where
  pub scope : Scope
  pub declarations : List Declaration

-- The scopes of a protocol are numbered: it is 0 itself, and its machines follow in their order. A number beyond them is taken
-- for 0.
abbrev pub scope_at : List Tree → ℕ → Scope
scope_at trees number = slice_index_or (wide_scopes trees) number everywhere

abbrev pub table_in : List Tree → Scope → ScopeTable
table_in trees scope = record { scope = scope; declarations = declared_in trees scope }

-- the table says what is declared in its scope
abbrev pub summary : Table → ScopeTable
summary t = record { scope = scope_of t.scope; declarations = declarations_of t.declarations }

abbrev pub summaries : List Table → List ScopeTable
summaries tables = map summary tables

abbrev pub machine_table : Machine → ScopeTable
machine_table m = record { scope = within m; declarations = machine_declarations m }

-- there is a table of each scope
pub record AreTables (trees : List Tree) (tables : List Table) : Type 0 where
  pub all : summaries tables ≡ map (table_in trees) (wide_scopes trees)

-- it is the scope of a machine of this name
abbrev pub is_machine_named : List ℕ → Scope → Bool
is_machine_named text everywhere = false
is_machine_named text (within m) = bytes_eq m.name.text text
