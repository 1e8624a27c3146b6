-- What is declared of the machine of a body, and of what kind references are. A body of a machine that isn't declared has no tables, no
-- buffers, no states and no map of them. The kind of a reference is that of its table's structure: of an entry, or of a TBE where one of
-- the machine's TBE tables has that structure, so that references to one structure have one kind. Of a type that the machine doesn't have
-- 65,535 is in the place of the structure's number, and an entry of such a type is no TBE.
use Rattle.std.specs.Prelude.{ℕ, ◌==◌, Bool, true, false, not, ◌&&◌, ◌||◌, Option, None, Some, List, [], slice_get, if◌then◌else◌}
use Rattle.std.specs.List.{list_any}
use Rattle.ruby_value.specs.declared.kind.Kind.{Kind}
use Rattle.ruby_value.specs.declared.kind.Kind.TheVariants as kind
use Rattle.action_code.specs.declared.instr.Code.{Code}
use Rattle.action_code.specs.declared.program.BufferDecl.{BufferDecl}
use Rattle.action_code.specs.declared.program.MachineDecl.{MachineDecl}
use Rattle.action_code.specs.declared.program.Program.{Program}
use Rattle.action_code.specs.declared.program.TableDecl.{TableDecl}
use Rattle.action_code.specs.declared.program.TableSort.{TableSort}
use Rattle.action_code.specs.declared.program.TableSort.TheVariants as sort

abbrev pub machine_of : Program → Code → Option MachineDecl
machine_of p c = slice_get p.machines c.machine

abbrev pub tables_of : Option MachineDecl → List TableDecl
tables_of None = []
tables_of (Some m) = m.tables

abbrev pub buffer_at : Option MachineDecl → ℕ → Option BufferDecl
buffer_at None n = None
buffer_at (Some m) n = slice_get m.buffers n

abbrev pub has_map : Option MachineDecl → Bool
has_map None = false
has_map (Some m) = m.built_in_map

abbrev pub same_sort : TableSort → TableSort → Bool
same_sort sort.Cache sort.Cache = true
same_sort sort.Directory sort.Directory = true
same_sort sort.Tbe sort.Tbe = true
same_sort sort.Parameters sort.Parameters = true
same_sort _ _ = false

-- in the place of a structure's number, for a type that the machine doesn't have
abbrev pub no_structure : ℕ
no_structure = 65535

-- whether one of a machine's tables of this sort has lines of this structure
abbrev pub is_of : List TableDecl → TableSort → ℕ → Bool
is_of tables s n = list_any (λ (t : TableDecl). same_sort t.sort s && t.structure == n) tables

abbrev pub has_table : List TableDecl → TableSort → Bool
has_table tables s = list_any (λ (t : TableDecl). same_sort t.sort s) tables

-- whether a table shows that the structure is of another sort: parameters share theirs with no table, and caches with no directory
abbrev pub is_of_another : List TableDecl → TableSort → ℕ → Bool
is_of_another tables sort.Cache n = is_of tables sort.Parameters n || is_of tables sort.Directory n
is_of_another tables sort.Directory n = is_of tables sort.Parameters n || is_of tables sort.Cache n
is_of_another tables _ n = is_of tables sort.Parameters n

-- whether tables of this sort may have this structure, as far as the tables show: where there is no such table, the machine may have
-- the type all the same
abbrev pub may_be_of : List TableDecl → TableSort → ℕ → Bool
may_be_of tables s n = is_of tables s n || not (has_table tables s) && (n == no_structure || not (is_of_another tables s n))

-- whether it may be that of TBEs and that of entries of a cache or a directory at once
abbrev pub may_be_both : List TableDecl → ℕ → Bool
may_be_both tables n =
    not (n == no_structure) && may_be_of tables sort.Tbe n && (may_be_of tables sort.Cache n || may_be_of tables sort.Directory n)

-- the kind of references to the lines of a table
abbrev pub kind_of_table : List TableDecl → TableDecl → Kind
kind_of_table tables t =
    if same_sort t.sort sort.Tbe || not (t.structure == no_structure) && is_of tables sort.Tbe t.structure
    then kind.Tbe t.structure
    else kind.Entry t.structure

-- Whether a kind is that of references to lines of tables of this sort. One structure may be that of entries and that of TBEs;
-- references to it have one kind, and serve as both. That kind is an entry's only where no TBE table shows that it is a TBE's.
abbrev pub is_reference_to : List TableDecl → TableSort → Kind → Bool
is_reference_to tables s (kind.Entry n) =
    may_be_of tables s n && (not (same_sort s sort.Tbe) || may_be_both tables n && not (is_of tables sort.Tbe n))
is_reference_to tables s (kind.Tbe n) = may_be_of tables s n && (same_sort s sort.Tbe || may_be_both tables n)
is_reference_to tables s _ = false
