-- What a machine of a protocol is to its controllers, by the symbols of the protocol and of the machine.
use Rattle.std.specs.Prelude.{ℕ, ◌+◌, ◌++◌, cond, flat_map, is_none, is_some, length, map, pos, option_and_then, slice_get, Option, None, Some, List, [], ◌∷◌}
use Rattle.ruby_value.specs.declared.kind.Kind.{Kind}
use Rattle.ruby_value.specs.declared.kind.Kind.TheVariants as kind
use Rattle.ruby_value.specs.declared.setup.BufferSetup.{BufferSetup}
use Rattle.ruby_value.specs.declared.setup.MachineSetup.{MachineSetup}
use Rattle.ruby_value.specs.declared.setup.Sizes.{Sizes}
use Rattle.ruby_value.specs.declared.setup.TableSetup.{TableSetup}
use Rattle.ruby_value.specs.declared.setup.TableSize.TheVariants.{Parameters}
use Rattle.ruby_value.specs.declared.value.Value.{Value}
use Rattle.ruby_value.specs.declared.value.Value.TheVariants as value
use Rattle.ruby_symbols.specs.declared.machine.BufferSymbol.{BufferSymbol}
use Rattle.ruby_symbols.specs.declared.machine.MachineSymbols.{MachineSymbols}
use Rattle.ruby_symbols.specs.declared.machine.TableSort.{TableSort}
use Rattle.ruby_symbols.specs.declared.machine.TableSort.TheVariants.{Cache, Directory, Tbe}
use Rattle.ruby_symbols.specs.declared.machine.TableSymbol.{TableSymbol}
use Rattle.ruby_symbols.specs.declared.symbols.Symbols.{Symbols}
use Rattle.ruby_symbols.specs.declared.types.EnumerationSymbol.{EnumerationSymbol}
use Rattle.ruby_symbols.specs.declared.types.FieldSymbol.{FieldSymbol}
use Rattle.ruby_symbols.specs.declared.types.StructureSymbol.{StructureSymbol}
use Rattle.slicc_plan.specs.Prelude.{table_size, values_from}

-- Fields.

abbrev pub fields_of : Option StructureSymbol → List FieldSymbol
fields_of None = []
fields_of (Some s) = s.fields

-- of the structure of this number, if there is one
abbrev pub fields_at : Symbols → Option ℕ → List FieldSymbol
fields_at symbols number = fields_of (option_and_then (slice_get symbols.structures) number)

abbrev pub kinds_of : List FieldSymbol → List Kind
kinds_of fields = map (λ (f : FieldSymbol). f.kind) fields

abbrev pub first_values : List FieldSymbol → List Value
first_values fields = map (λ (f : FieldSymbol). f.initial) fields

-- Tables.

-- the number of the structure of the lines of tables of this sort
abbrev pub line_of : MachineSymbols → TableSort → Option ℕ
line_of own Cache = own.entry
line_of own Directory = own.directory
line_of own (Tbe entries) = own.tbe

abbrev pub table_by : Symbols → MachineSymbols → Sizes → ℕ → TableSymbol → TableSetup
table_by symbols own sizes number t =
    record {
      size = table_size sizes number t.sort;
      structure = t.structure;
      kinds = kinds_of (fields_at symbols (line_of own t.sort));
      initial = first_values (fields_at symbols (line_of own t.sort));
    }

-- of these tables, which are numbered from here on
abbrev pub tables_by : Symbols → MachineSymbols → Sizes → ℕ → List TableSymbol → List TableSetup
tables_by symbols own sizes number [] = []
tables_by symbols own sizes number (t ∷ ts) =
    table_by symbols own sizes number t ∷ tables_by symbols own sizes (number + 1) ts

-- of each machine its first controller's number and how many controllers it has
abbrev pub values_of_ranges : List (ℕ × ℕ) → List Value
values_of_ranges ranges = flat_map (λ (r : ℕ × ℕ). value.Int (pos r.0) ∷ value.Int (pos r.1) ∷ []) ranges

abbrev pub kinds_of_ranges : List (ℕ × ℕ) → List Kind
kinds_of_ranges ranges = flat_map (λ (r : ℕ × ℕ). kind.Int ∷ kind.Int ∷ []) ranges

-- the values of the machine of this number, and after them the ranges of all machines
abbrev pub values_by : Symbols → ℕ → MachineSymbols → Sizes → TableSetup
values_by symbols number own sizes =
    record {
      size = Parameters;
      structure = length symbols.structures + number;
      kinds = kinds_of own.values ++ kinds_of_ranges sizes.machines;
      initial = values_from sizes 0 own.values ++ values_of_ranges sizes.machines;
    }

-- Buffers.

abbrev pub buffer_by : Symbols → BufferSymbol → BufferSetup
buffer_by symbols b =
    record { place = b.place; ordered = b.ordered; kinds = kinds_of (fields_at symbols b.message) }

-- States.

abbrev pub default_of : Option EnumerationSymbol → ℕ
default_of None = 0
default_of (Some e) = e.default

-- where the machine doesn't say itself how states are read
abbrev pub default_state_by : Symbols → MachineSymbols → Option ℕ
default_state_by symbols own =
    cond (is_none own.get_state) (Some (default_of (slice_get symbols.enumerations own.states))) None

-- of the machine of this number, which has these symbols
abbrev pub setup_by : Symbols → ℕ → MachineSymbols → Sizes → MachineSetup
setup_by symbols number own sizes =
    record {
      tables = tables_by symbols own sizes 0 own.tables ++ values_by symbols number own sizes ∷ [];
      buffers = map (buffer_by symbols) own.buffers;
      default_state = default_state_by symbols own;
      has_sequencer = is_some own.sequencer;
    }
