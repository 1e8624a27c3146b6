-- What names stand for that no body has of its own: what the machine declares, its enumerations' members, and fields, which are
-- found by the structure of the line or of the message. A parameter or an object of a value type is a field of line 0 of the table
-- after the machine's others; one whose values are references is a reference to nothing, since nothing is ever written to it.
-- `machineID` and `recycle_latency` are there in each body. What is none of these is the fault `reference`, and no accepted
-- protocol has such a name.
use Rattle.std.specs.Prelude.{ℕ, pos, Option, None, Some, List, codes, length, map, option_and_then, slice_get}
use Rattle.std.specs.Option.{option_map}
use Rattle.std.specs.Str.{bytes_eq}
use Rattle.ruby_value.specs.declared.value.Ref.{Ref}
use Rattle.ruby_value.specs.declared.value.Value.{Value}
use Rattle.ruby_value.specs.declared.value.Value.TheVariants as value
use Rattle.ruby_symbols.specs.declared.machine.BufferSymbol.{BufferSymbol}
use Rattle.ruby_symbols.specs.declared.machine.MachineSymbols.{MachineSymbols}
use Rattle.ruby_symbols.specs.declared.machine.PortSymbol.{PortSymbol}
use Rattle.ruby_symbols.specs.declared.machine.TableSymbol.{TableSymbol}
use Rattle.ruby_symbols.specs.declared.names.Named.{Named}
use Rattle.ruby_symbols.specs.declared.names.Named.TheVariants as named
use Rattle.ruby_symbols.specs.declared.symbols.Symbols.{Symbols}
use Rattle.ruby_symbols.specs.declared.types.EnumerationSymbol.{EnumerationSymbol}
use Rattle.ruby_symbols.specs.declared.types.FieldSymbol.{FieldSymbol}
use Rattle.ruby_symbols.specs.declared.types.StructureSymbol.{StructureSymbol}
use Rattle.ruby_symbols.specs.Prelude.{stands_for, short_number, enumeration_named, field_named, member_named}
use Rattle.acts.specs.declared.body_fault.BodyFault.TheVariants as own
use Rattle.acts.specs.Act as act
use Rattle.acts.specs.Prelude.{Acting, ends, stops, ◌>>=◌, act as done, either, found}
use Rattle.body_meaning.specs.Reading.{Reading}
use Rattle.body_meaning.specs.declared.thing.Thing.{Thing}
use Rattle.body_meaning.specs.declared.thing.Thing.TheVariants as thing
use Rattle.body_meaning.specs.Things.{no_line}

-- Ports, by the buffers that they are on.

abbrev pub port_at : List PortSymbol → ℕ → Option ℕ
port_at ports k = option_map (λ (p : PortSymbol). p.buffer) (slice_get ports k)

abbrev pub port_of : MachineSymbols → Option Named → Option ℕ
port_of m (Some (named.InPort k)) = port_at m.in_ports k
port_of m (Some (named.OutPort k)) = port_at m.out_ports k
port_of m _ = None

-- the buffer that the port of this name is on
abbrev pub port_named : MachineSymbols → List ℕ → Option ℕ
port_named m text = port_of m (stands_for m text)

-- the structure of a buffer's messages
abbrev pub message_of : MachineSymbols → ℕ → Option ℕ
message_of m buffer = option_and_then (λ (b : BufferSymbol). b.message) (slice_get m.buffers buffer)

-- Names.

-- a field of a line
unfoldable pub thing_got : Ref → ℕ → Acting Thing
thing_got r k = done (act.Get r k) >>= (λ v. ends (thing.Value v))

unfoldable pub parameter : MachineSymbols → ℕ → Acting Thing
parameter m k = found own.Reference (short_number (length m.tables)) >>= (λ table. thing_got (record { table = table; line = 0 }) k)

unfoldable pub own_number : Acting Thing
own_number = done act.Me >>= (λ k. ends (thing.Value (value.Machine k)))

abbrev pub named_everywhere : List ℕ → Acting Thing
named_everywhere text =
    either (bytes_eq text (codes "machineID")) own_number
    (either (bytes_eq text (codes "recycle_latency")) (ends (thing.Value (value.Int (pos 10)))) (stops own.Reference))

unfoldable pub port_thing : Option ℕ → Acting Thing
port_thing buffer = found own.Reference buffer >>= (λ b. ends (thing.Port b))

abbrev pub thing_declared : MachineSymbols → List ℕ → Option Named → Acting Thing
thing_declared m text None = named_everywhere text
thing_declared m text (Some (named.Table k)) = ends (thing.Table k)
thing_declared m text (Some (named.Value k)) = parameter m k
thing_declared m text (Some (named.Reference k)) = ends no_line
thing_declared m text (Some (named.Buffer k)) = stops own.Reference
thing_declared m text (Some (named.InPort k)) = port_thing (port_at m.in_ports k)
thing_declared m text (Some (named.OutPort k)) = port_thing (port_at m.out_ports k)
thing_declared m text (Some named.Sequencer) = ends thing.Sequencer

unfoldable pub declared : MachineSymbols → List ℕ → Acting Thing
declared m text = thing_declared m text (stands_for m text)

-- Members of enumerations.

abbrev pub member_in : List ℕ → ℕ → EnumerationSymbol → Option Value
member_in text number e = option_map (λ k. value.Enum number k) (member_named e text)

abbrev pub member_at : Symbols → List ℕ → ℕ → Option Value
member_at symbols text number = option_and_then (member_in text number) (slice_get symbols.enumerations number)

-- `owner:member`, where the type's name is looked up as the machine sees it
abbrev pub member_value : Reading → List ℕ → List ℕ → Option Value
member_value s owner member = option_and_then (member_at s.symbols member) (enumeration_named s.symbols s.number owner)

-- Fields.

abbrev pub structure_field : Symbols → ℕ → List ℕ → Option ℕ
structure_field symbols structure text =
    option_and_then (λ (t : StructureSymbol). field_named t.fields text) (slice_get symbols.structures structure)

-- of the lines of the table of this number
abbrev pub line_field : Reading → ℕ → List ℕ → Option ℕ
line_field s table text =
    option_and_then (λ (t : TableSymbol). structure_field s.symbols t.structure text) (slice_get s.machine.tables table)

abbrev pub message_field : Reading → ℕ → List Value → List ℕ → Option Value
message_field s structure fields text = option_and_then (slice_get fields) (structure_field s.symbols structure text)

-- what the fields of a message are that is made
abbrev pub initial_fields : StructureSymbol → List Value
initial_fields t = map (λ (f : FieldSymbol). f.initial) t.fields

abbrev pub new_message : Reading → ℕ → Option Thing
new_message s structure =
    option_map (λ (t : StructureSymbol). thing.Message structure (initial_fields t)) (slice_get s.symbols.structures structure)
