-- The kinds of what the functions of states take: a reference to a line of the machine's own type, an address and a state.
use Rattle.std.specs.Prelude.{Option, Some, option_and_then}
use Rattle.ruby_value.specs.declared.kind.Kind.{Kind}
use Rattle.ruby_value.specs.declared.kind.Kind.TheVariants as kind
use Rattle.ruby_symbols.specs.declared.machine.MachineSymbols.{MachineSymbols}
use Rattle.ruby_symbols.specs.declared.states.StateArgument.{StateArgument}
use Rattle.ruby_symbols.specs.declared.states.StateArgument.TheVariants.{Tbe, Entry, Address, State}
use Rattle.ruby_symbols.specs.declared.symbols.Symbols.{Symbols}
use Rattle.ruby_symbols.specs.Kinds.{kind_of_enumeration, kind_of_reference}

abbrev pub argument_kind : Symbols → MachineSymbols → StateArgument → Option Kind
argument_kind symbols m Tbe = option_and_then (kind_of_reference m) m.tbe
argument_kind symbols m Entry = option_and_then (kind_of_reference m) m.entry
argument_kind symbols m Address = Some kind.Addr
argument_kind symbols m State = kind_of_enumeration symbols m.states
