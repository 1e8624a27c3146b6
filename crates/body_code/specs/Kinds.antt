-- What a program declares of a machine: the built-in map of states or none, its tables, after which comes that of its values, and its
-- buffers. And the kinds of values as code has them. An enumeration's default member isn't told. Of references to lines of a structure
-- that is the TBE type and another, the kind is that of the tables that there are: an entry's where no TBE table has it but another table
-- does. Where the machine lacks a type, 65,535 is in the place of its structure's number.
use Rattle.std.specs.Prelude.{ℕ, ◌+◌, ◌==◌, ◌&&◌, ◌||◌, Bool, true, false, not, Option, None, Some, List, [], ◌∷◌, ◌++◌, is_none, length, map, option_and_then, unwrap_or, if◌then◌else◌}
use Rattle.std.specs.List.{list_any}
use Rattle.std.specs.Option.{option_map}
use Rattle.ruby_value.specs.declared.kind.Kind.{Kind}
use Rattle.ruby_value.specs.declared.kind.Kind.TheVariants as kind
use Rattle.ruby_value.specs.declared.setup.BufferPlace.{BufferPlace}
use Rattle.ruby_value.specs.declared.setup.BufferPlace.TheVariants as buffer_place
use Rattle.ruby_value.specs.declared.value.Value.TheVariants as value
use Rattle.ruby_symbols.specs.declared.machine.BufferSymbol.{BufferSymbol}
use Rattle.ruby_symbols.specs.declared.machine.MachineSymbols.{MachineSymbols}
use Rattle.ruby_symbols.specs.declared.machine.TableSort.{TableSort}
use Rattle.ruby_symbols.specs.declared.machine.TableSort.TheVariants as table_sort
use Rattle.ruby_symbols.specs.declared.machine.TableSymbol.{TableSymbol}
use Rattle.ruby_symbols.specs.declared.symbols.Symbols.{Symbols}
use Rattle.ruby_symbols.specs.Prelude.{kind_of_reference}
use Rattle.action_code.specs.declared.instr.Instr.{Instr}
use Rattle.action_code.specs.declared.instr.Instr.TheVariants as instr
use Rattle.action_code.specs.declared.program.BufferDecl.{BufferDecl}
use Rattle.action_code.specs.declared.program.MachineDecl.{MachineDecl}
use Rattle.action_code.specs.declared.program.Place.{Place}
use Rattle.action_code.specs.declared.program.Place.TheVariants as place
use Rattle.action_code.specs.declared.program.TableDecl.{TableDecl}
use Rattle.action_code.specs.declared.program.TableSort.TheVariants as sort
use Rattle.action_code.specs.declared.program.TableSort as code
use Rattle.action_code.specs.Prelude.{bare, no_structure}
use Rattle.body_meaning.specs.Prelude.{Reading}

-- Declarations.

abbrev pub sort_of : TableSort → code.TableSort
sort_of table_sort.Cache = sort.Cache
sort_of table_sort.Directory = sort.Directory
sort_of (table_sort.Tbe entries) = sort.Tbe

abbrev pub table_declared : TableSymbol → TableDecl
table_declared t = record { sort = sort_of t.sort; structure = t.structure }

-- the values of the machine of this number have a structure of their own, after all others
abbrev pub values_structure : Symbols → ℕ → ℕ
values_structure symbols number = length symbols.structures + number

abbrev pub tables_declared : Symbols → (number : ℕ) → MachineSymbols → List TableDecl
tables_declared symbols number m =
    map table_declared m.tables ++ record { sort = sort.Parameters; structure = values_structure symbols number } ∷ []

abbrev pub place_of : BufferPlace → Place
place_of buffer_place.Local = place.Local
place_of (buffer_place.To network receivers) = place.To
place_of (buffer_place.From network) = place.From

abbrev pub buffer_declared : BufferSymbol → BufferDecl
buffer_declared b = record { message = unwrap_or b.message no_structure; place = place_of b.place }

abbrev pub machine_declared : Symbols → (number : ℕ) → MachineSymbols → MachineDecl
machine_declared symbols number m =
    record {
      built_in_map = is_none m.get_state;
      states = m.states;
      tables = tables_declared symbols number m;
      buffers = map buffer_declared m.buffers;
    }

-- Kinds.

abbrev pub is_tbes : TableSort → Bool
is_tbes (table_sort.Tbe entries) = true
is_tbes _ = false

-- a TBE table has lines of this structure, and any table has
abbrev pub has_tbes : MachineSymbols → ℕ → Bool
has_tbes m n = list_any (λ (t : TableSymbol). is_tbes t.sort && t.structure == n) m.tables

abbrev pub has_lines : MachineSymbols → ℕ → Bool
has_lines m n = list_any (λ (t : TableSymbol). t.structure == n) m.tables

abbrev pub code_kind : MachineSymbols → Kind → Kind
code_kind m (kind.Tbe n) = if has_tbes m n || not (has_lines m n) then kind.Tbe n else kind.Entry n
code_kind m k = bare k

abbrev pub kind_in : Reading → Kind → Kind
kind_in s k = code_kind s.machine k

-- of references to the lines of a table
abbrev pub lines_kind : MachineSymbols → TableSymbol → Kind
lines_kind m t =
    if is_tbes t.sort || not (t.structure == no_structure) && has_tbes m t.structure then kind.Tbe t.structure else kind.Entry t.structure

-- of references to lines of a structure, and another kind where the machine has no such structure
abbrev pub reference_kind : Reading → Option ℕ → (otherwise : Kind) → Kind
reference_kind s structure otherwise =
    unwrap_or (option_map (kind_in s) (option_and_then (kind_of_reference s.machine) structure)) otherwise

abbrev pub entry_kind : Reading → Kind
entry_kind s = reference_kind s s.machine.entry (kind.Entry no_structure)

abbrev pub tbe_kind : Reading → Kind
tbe_kind s = reference_kind s s.machine.tbe (kind.Tbe no_structure)

abbrev pub state_kind : Reading → Kind
state_kind s = kind.Enum s.machine.states 0

-- `OOD` where a value of this kind is expected
abbrev pub null_kind : Option Kind → Kind
null_kind (Some (kind.Entry n)) = kind.Entry n
null_kind (Some (kind.Tbe n)) = kind.Tbe n
null_kind _ = kind.Entry no_structure

-- a reference to nothing of this kind
abbrev pub null : Kind → Instr
null (kind.Entry n) = instr.Push (value.Entry None) n
null (kind.Tbe n) = instr.Push (value.Tbe None) n
null _ = instr.Push (value.Entry None) no_structure
