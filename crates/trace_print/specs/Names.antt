-- Names by their numbers. A controller's name is that of its machine, a dash, and its place among the machine's controllers. No
-- machine's name has a dash, so a controller's name tells of which machine it is, and by that what its states and events are named.
use Rattle.std.specs.Prelude.{ℕ, ◌==◌, Option, List, option_and_then, slice_get}
use Rattle.std.specs.List.{before_first}
use Rattle.std.specs.Option.{option_map}
use Rattle.ruby_symbols.specs.declared.machine.ActionSymbol.{ActionSymbol}
use Rattle.ruby_symbols.specs.declared.machine.MachineSymbols.{MachineSymbols}
use Rattle.ruby_symbols.specs.declared.symbols.Symbols.{Symbols}
use Rattle.ruby_symbols.specs.declared.types.EnumerationSymbol.{EnumerationSymbol}
use Rattle.ruby_symbols.specs.Prelude.{machine_named}
use Rattle.trace_print.specs.Lines.{or_dash}

-- what stands before the first dash of a controller's name
abbrev pub machine_part : List ℕ → List ℕ
machine_part name = before_first (λ byte. byte == 45) name

abbrev pub machine_at : Symbols → Option ℕ → Option MachineSymbols
machine_at symbols number = option_and_then (slice_get symbols.machines) number

-- the machine of a controller with this name
abbrev pub machine_of : Symbols → List ℕ → Option MachineSymbols
machine_of symbols name = machine_at symbols (machine_named symbols (machine_part name))

-- the machine of the controller with this number
abbrev pub controller_machine : Symbols → List (List ℕ) → ℕ → Option MachineSymbols
controller_machine symbols names c = option_and_then (machine_of symbols) (slice_get names c)

abbrev pub controller_word : List (List ℕ) → ℕ → List ℕ
controller_word names c = or_dash (slice_get names c)

abbrev pub machine_word : Option MachineSymbols → List ℕ
machine_word m = or_dash (option_map (λ (m : MachineSymbols). m.name) m)

-- a member of the enumeration with this number
abbrev pub member_name : Symbols → ℕ → ℕ → Option (List ℕ)
member_name symbols enumeration n =
    option_and_then (λ (e : EnumerationSymbol). slice_get e.members n) (slice_get symbols.enumerations enumeration)

abbrev pub state_word : Symbols → Option MachineSymbols → ℕ → List ℕ
state_word symbols m n = or_dash (option_and_then (λ (m : MachineSymbols). member_name symbols m.states n) m)

abbrev pub event_word : Symbols → Option MachineSymbols → ℕ → List ℕ
event_word symbols m n = or_dash (option_and_then (λ (m : MachineSymbols). member_name symbols m.events n) m)

abbrev pub action_name : MachineSymbols → ℕ → Option (List ℕ)
action_name m n = option_map (λ (a : ActionSymbol). a.name) (slice_get m.actions n)

abbrev pub action_word : Option MachineSymbols → ℕ → List ℕ
action_word m n = or_dash (option_and_then (λ (m : MachineSymbols). action_name m n) m)
