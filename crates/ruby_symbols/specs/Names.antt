-- What a name stands for in a machine. A parameter or an object is a table, a value, a reference to nothing, a buffer or the
-- sequencer, by its type; and ports, functions and actions have names. In an accepted protocol no name is declared twice in a
-- machine, so that the order of the search doesn't matter.
use Rattle.std.specs.Prelude.{ℕ, ◌==◌, ◌&&◌, ◌||◌, Bool, true, false, cond, Option, None, Some, List, codes, option_and_then}
use Rattle.std.specs.List.{list_any}
use Rattle.std.specs.Option.{option_map, option_or}
use Rattle.std.specs.Str.{bytes_eq}
use Rattle.ruby_value.specs.declared.setup.BufferPlace.{BufferPlace}
use Rattle.ruby_value.specs.declared.setup.BufferPlace.TheVariants.{Local}
use Rattle.ruby_symbols.specs.declared.machine.ActionSymbol.{ActionSymbol}
use Rattle.ruby_symbols.specs.declared.machine.BufferSymbol.{BufferSymbol}
use Rattle.ruby_symbols.specs.declared.machine.FunctionSymbol.{FunctionSymbol}
use Rattle.ruby_symbols.specs.declared.machine.MachineSymbols.{MachineSymbols}
use Rattle.ruby_symbols.specs.declared.machine.PortSymbol.{PortSymbol}
use Rattle.ruby_symbols.specs.declared.machine.TableSymbol.{TableSymbol}
use Rattle.ruby_symbols.specs.declared.names.Named.{Named}
use Rattle.ruby_symbols.specs.declared.names.Named.TheVariants.{Table, Value, Reference, Buffer, InPort, OutPort, Sequencer}
use Rattle.ruby_symbols.specs.declared.symbols.Symbols.{Symbols}
use Rattle.ruby_symbols.specs.Numbers.{is_number, number_of}
use Rattle.ruby_symbols.specs.Types.{field_named, request}

abbrev pub table_named : MachineSymbols → List ℕ → Option ℕ
table_named m text = number_of (λ (t : TableSymbol). bytes_eq t.name text) m.tables

abbrev pub buffer_among : List BufferSymbol → List ℕ → Option ℕ
buffer_among buffers text = number_of (λ (b : BufferSymbol). bytes_eq b.name text) buffers

abbrev pub buffer_named : MachineSymbols → List ℕ → Option ℕ
buffer_named m text = buffer_among m.buffers text

abbrev pub port_named : List PortSymbol → List ℕ → Option ℕ
port_named ports text = number_of (λ (p : PortSymbol). bytes_eq p.name text) ports

abbrev pub sequencer_named : Option (List ℕ) → List ℕ → Option Named
sequencer_named None text = None
sequencer_named (Some name) text = cond (bytes_eq name text) (Some Sequencer) None

abbrev pub port_or_sequencer : MachineSymbols → List ℕ → Option Named
port_or_sequencer m text =
    option_or (option_map InPort (port_named m.in_ports text))
    (option_or (option_map OutPort (port_named m.out_ports text)) (sequencer_named m.sequencer text))

-- what stands where a value, a receiver or a port is named
abbrev pub stands_for : MachineSymbols → List ℕ → Option Named
stands_for m text =
    option_or (option_map Table (table_named m text))
    (option_or (option_map Value (field_named m.values text))
    (option_or (option_map Reference (field_named m.references text))
    (option_or (option_map Buffer (buffer_named m text)) (port_or_sequencer m text))))

-- what is called by this name
abbrev pub function_among : List FunctionSymbol → List ℕ → Option ℕ
function_among functions text = number_of (λ (f : FunctionSymbol). bytes_eq f.name text) functions

abbrev pub function_named : MachineSymbols → List ℕ → Option ℕ
function_named m text = function_among m.functions text

abbrev pub action_among : List ActionSymbol → List ℕ → Option ℕ
action_among actions text = number_of (λ (a : ActionSymbol). bytes_eq a.name text) actions

abbrev pub action_named : MachineSymbols → List ℕ → Option ℕ
action_named m text = action_among m.actions text

abbrev pub machine_named : Symbols → List ℕ → Option ℕ
machine_named symbols text = number_of (λ (m : MachineSymbols). bytes_eq m.name text) symbols.machines

-- What a driver asks of a controller comes through the machine's own buffer `mandatoryQueue`.

abbrev pub is_local : BufferPlace → Bool
is_local Local = true
is_local _ = false

abbrev pub is_mandatory : BufferSymbol → Bool
is_mandatory b = is_local b.place && bytes_eq b.name (codes "mandatoryQueue")

abbrev pub mandatory : MachineSymbols → Option ℕ
mandatory m = number_of is_mandatory m.buffers

-- it carries messages of type `RubyRequest`
abbrev pub carries_requests : Symbols → BufferSymbol → Bool
carries_requests symbols b = is_number (request symbols) b.message

abbrev pub is_on : ℕ → PortSymbol → Bool
is_on buffer p = p.buffer == buffer

abbrev pub has_port_on : MachineSymbols → Option ℕ → Bool
has_port_on m None = false
has_port_on m (Some buffer) = list_any (is_on buffer) m.in_ports || list_any (is_on buffer) m.out_ports

-- there is a port of type `RubyRequest` on that buffer
abbrev pub takes_requests : Symbols → MachineSymbols → Bool
takes_requests symbols m =
    has_port_on m (number_of (λ (b : BufferSymbol). is_mandatory b && carries_requests symbols b) m.buffers)
