-- Calls, once their arguments are evaluated. A name that is called is that of a function of the machine, if it has one, and else of
-- a built-in call; nothing hides a call that has a receiver. A receiver that is a value is the first argument. The `new` of an
-- `allocate` is an argument that the call doesn't look at.
use Rattle.std.specs.Prelude.{ℕ, ◌==◌, ◌++◌, Bool, Option, None, Some, List, [], ◌∷◌, codes, cond, find, is_some, length, nat_lt, slice_get, unwrap_or, if◌then◌else◌}
use Rattle.std.specs.Option.{option_map}
use Rattle.std.specs.Str.{bytes_eq}
use Rattle.ruby_value.specs.declared.value.Ref.{Ref}
use Rattle.ruby_value.specs.declared.value.Value.{Value}
use Rattle.ruby_value.specs.declared.value.Value.TheVariants as value
use Rattle.ruby_symbols.specs.declared.machine.MachineSymbols.{MachineSymbols}
use Rattle.ruby_symbols.specs.declared.machine.TableSymbol.{TableSymbol}
use Rattle.ruby_symbols.specs.declared.types.EnumerationSymbol.{EnumerationSymbol}
use Rattle.ruby_symbols.specs.Prelude.{function_named}
use Rattle.acts.specs.declared.body_fault.BodyFault.TheVariants as own
use Rattle.acts.specs.Prelude.{Acting, ends, ◌>>=◌, found}
use Rattle.built_in_acts.specs.Prelude.{built_in, address_of_line, argument, line_named, member, reference}
use Rattle.body_meaning.specs.Reading.{Reading}
use Rattle.body_meaning.specs.declared.thing.Thing.{Thing}
use Rattle.body_meaning.specs.declared.thing.Thing.TheVariants as thing
use Rattle.body_meaning.specs.declared.thing.Trigger.{Trigger}
use Rattle.body_meaning.specs.declared.thing.Numbered.{Numbered}
use Rattle.body_meaning.specs.CallNumbers.{block_call, entry_call, index_call, plain_call, port_call, sequencer_call, set_call, table_call}
use Rattle.body_meaning.specs.Things.{thing_of}

-- what the call of a function of the machine does, by the function's number, with these arguments
abbrev pub Calls : Type 0
Calls = ℕ → List Value → Acting Thing

-- a value that is to be there
unfoldable pub value_found : Option Value → Acting Thing
value_found v = found own.Reference v >>= (λ x. ends (thing.Value x))

unfoldable pub thing_built : Reading → ℕ → ℕ → List Value → Acting Thing
thing_built s number on arguments = built_in s.kept number on arguments >>= (λ v. ends (thing_of v))

-- A value as a member of an enumeration, by its number. What is none of its members counts as the first one, which is this project's
-- own rule: by their types, the bodies of an accepted protocol give members.

abbrev pub member_among : ℕ → Option EnumerationSymbol → ℕ
member_among k None = 0
member_among k (Some e) = if nat_lt k (length e.members) then k else 0

abbrev pub as_member : Reading → (enumeration : ℕ) → Value → ℕ
as_member s enumeration (value.Enum number k) =
    if number == enumeration then member_among k (slice_get s.symbols.enumerations number) else 0
as_member s enumeration _ = 0

-- `trigger(event, address [, entry] [, TBE])`, where the references are there exactly where the machine has such lines. The address
-- is brought down to its line, which is this project's own rule.

abbrev pub reference_at : Bool → List Value → ℕ → Option Ref
reference_at is_there arguments i = if is_there then reference (argument arguments i) else None

abbrev pub trigger_of : Reading → List Value → Trigger
trigger_of s arguments =
    record {
      event = as_member s s.machine.events (argument arguments 0);
      address = address_of_line (line_named (argument arguments 1));
      entry = reference_at (is_some s.machine.entry) arguments 2;
      tbe = reference_at (is_some s.machine.tbe) arguments (if is_some s.machine.entry then 3 else 2);
    }

-- `M_State_to_permission` for a machine M; a number that is none of its states has `Invalid`, which is this project's own rule.

abbrev pub is_permission_call : List ℕ → MachineSymbols → Bool
is_permission_call text m = bytes_eq (m.name ++ codes "_State_to_permission") text

abbrev pub permission_of : MachineSymbols → Value → Value
permission_of m state = value.Enum 1 (unwrap_or (slice_get m.permissions (member state)) 2)

-- Calls without a receiver.

-- one that is none of the built-in calls is one from states to permissions
abbrev pub permission_call : Reading → List ℕ → List Value → Acting Thing
permission_call s text arguments =
    value_found (option_map (λ m. permission_of m (argument arguments 0)) (find (is_permission_call text) s.symbols.machines))

abbrev pub plain_or : Reading → List ℕ → List Value → Option ℕ → Acting Thing
plain_or s text arguments (Some number) = thing_built s number 0 arguments
plain_or s text arguments None = permission_call s text arguments

unfoldable pub free_call : Reading → List ℕ → List Value → Acting Thing
free_call s text arguments =
    cond (bytes_eq text (codes "trigger")) (ends (thing.Trigger (trigger_of s arguments))) (plain_or s text arguments (plain_call text))

abbrev pub function_or : Reading → Calls → List ℕ → List Value → Option ℕ → Acting Thing
function_or s calls text arguments (Some k) = calls k arguments
function_or s calls text arguments None = free_call s text arguments

unfoldable pub named_call : Reading → Calls → List ℕ → List Value → Acting Thing
named_call s calls text arguments = function_or s calls text arguments (function_named s.machine text)

-- Calls with a receiver: the number of the call, and of the table or buffer that it is on.

abbrev pub numbered : ℕ → Option ℕ → Option Numbered
numbered on number = option_map (λ n. record { number = n; on = on }) number

abbrev pub value_call : Value → List ℕ → Option ℕ
value_call (value.Dest members) text = set_call text
value_call (value.Block b) text = block_call text
value_call (value.Entry r) text = entry_call text
value_call (value.Tbe r) text = entry_call text
value_call _ text = None

abbrev pub on_table : List ℕ → ℕ → Option TableSymbol → Option Numbered
on_table text table None = None
on_table text table (Some t) = numbered table (table_call t.sort text)

abbrev pub called_on : MachineSymbols → Thing → List ℕ → ℕ → Option Numbered
called_on m (thing.Port buffer) text count = numbered buffer (port_call text count)
called_on m (thing.Table table) text count = on_table text table (slice_get m.tables table)
called_on m thing.Sequencer text count = numbered 0 (sequencer_call text count)
called_on m (thing.Value v) text count = numbered 0 (value_call v text)
called_on m _ text count = None

abbrev pub with_receiver : Thing → List Value → List Value
with_receiver (thing.Value v) arguments = v ∷ arguments
with_receiver _ arguments = arguments

unfoldable pub method_call : Reading → Thing → List ℕ → List Value → Acting Thing
method_call s receiver text arguments =
    found own.Reference (called_on s.machine receiver text (length arguments))
    >>= (λ (c : Numbered). thing_built s c.number c.on (with_receiver receiver arguments))

-- the index of a table, by an address

abbrev pub indexed_on : MachineSymbols → Thing → Option Numbered
indexed_on m (thing.Table table) = option_map (λ (t : TableSymbol). record { number = index_call t.sort; on = table }) (slice_get m.tables table)
indexed_on m _ = None

unfoldable pub index : Reading → Thing → Value → Acting Thing
index s receiver key =
    found own.Reference (indexed_on s.machine receiver) >>= (λ (c : Numbered). thing_built s c.number c.on (key ∷ []))
