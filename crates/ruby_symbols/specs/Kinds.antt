-- The kinds of the values that a type has in a machine, by the type's name. A value of the machine's entry type, of its
-- directories' entry or of its TBE type is a reference to a line; a structure that is both the TBE type and another gives TBE
-- references.
use Rattle.std.specs.Prelude.{ℕ, ◌||◌, Bool, cond, Option, None, Some, List, codes, option_and_then, slice_get}
use Rattle.std.specs.Option.{option_map, option_or}
use Rattle.std.specs.Str.{bytes_eq}
use Rattle.ruby_value.specs.declared.kind.Kind.{Kind}
use Rattle.ruby_value.specs.declared.kind.Kind.TheVariants as kind
use Rattle.ruby_symbols.specs.declared.machine.MachineSymbols.{MachineSymbols}
use Rattle.ruby_symbols.specs.declared.symbols.Symbols.{Symbols}
use Rattle.ruby_symbols.specs.declared.types.EnumerationSymbol.{EnumerationSymbol}
use Rattle.ruby_symbols.specs.Numbers.{is_number}
use Rattle.ruby_symbols.specs.Types.{enumeration_of, structure_of}

-- the built-in types that are no enumerations
abbrev pub simple_kind : List ℕ → Option Kind
simple_kind text =
    cond (bytes_eq text (codes "int") || bytes_eq text (codes "Cycles") || bytes_eq text (codes "Tick")) (Some kind.Int)
    (cond (bytes_eq text (codes "bool")) (Some kind.Bool)
    (cond (bytes_eq text (codes "Addr")) (Some kind.Addr)
    (cond (bytes_eq text (codes "MachineID")) (Some kind.Machine)
    (cond (bytes_eq text (codes "NetDest")) (Some kind.Dest)
    (cond (bytes_eq text (codes "DataBlock")) (Some kind.Block) None)))))

-- of references to lines of the structure of this number
abbrev pub kind_of_reference : MachineSymbols → ℕ → Option Kind
kind_of_reference m structure =
    cond (is_number m.tbe (Some structure)) (Some (kind.Tbe structure))
    (cond (is_number m.entry (Some structure) || is_number m.directory (Some structure)) (Some (kind.Entry structure)) None)

-- of the members of the enumeration of this number
abbrev pub kind_of_enumeration : Symbols → ℕ → Option Kind
kind_of_enumeration symbols number =
    option_map (λ (e : EnumerationSymbol). kind.Enum number e.default) (slice_get symbols.enumerations number)

-- of the type of this name that the machine of this number declares, or that the protocol has
abbrev pub kind_of_own : Symbols → MachineSymbols → Option ℕ → List ℕ → Option Kind
kind_of_own symbols m owner text =
    option_or (option_and_then (kind_of_enumeration symbols) (enumeration_of symbols owner text))
    (option_and_then (kind_of_reference m) (structure_of symbols owner text))

abbrev pub kind_named : Symbols → ℕ → MachineSymbols → List ℕ → Option Kind
kind_named symbols number m text =
    option_or (kind_of_own symbols m (Some number) text) (option_or (simple_kind text) (kind_of_own symbols m None text))
