-- The built-in calls by their numbers: those of the table of calls, in its order, one for each count of arguments, and after them the
-- actor number, a stall, and the setting of the built-in state. Calls that do the same have one name here. Those whose work other
-- instructions do, `trigger` and the calls on a transition's own references and on states among them, have numbers and aren't served.
use Rattle.std.specs.Prelude.{ℕ, List, [], ◌∷◌, ◌++◌, slice_get, unwrap_or}
use Rattle.built_in_acts.specs.declared.call.Call.{Call}
use Rattle.built_in_acts.specs.declared.call.Call.TheVariants.{Message, Table, Controller, Machines, Set, Value, NotServed}
use Rattle.built_in_acts.specs.declared.call.MessageCall.TheVariants.{IsReady, Dequeue, Recycle, RecycleFor, Stall, Wake, WakeAll}
use Rattle.built_in_acts.specs.declared.call.TableCall.TheVariants.{Lookup, IsPresent, HasPlace, Replaced, Allocate, AllocateTbe, Deallocate, Use}
use Rattle.built_in_acts.specs.declared.call.ControllerCall.TheVariants.{ReadCallback, WriteCallback, SetState, Cycle, Me}
use Rattle.built_in_acts.specs.declared.call.MachineCall.TheVariants.{Broadcast, Home, Index, MachineOf}
use Rattle.built_in_acts.specs.declared.call.SetCall.TheVariants.{Add, Remove, ClearSet, Count, Contains, IsEmpty, AddAll, RemoveAll}
use Rattle.built_in_acts.specs.declared.call.ValueCall.TheVariants.{HasLine, ClearBlock, Number, LineAddress, Nothing}

abbrev pub calls_on_ports : List Call
calls_on_ports = Message IsReady ∷ Message Dequeue ∷ Message Recycle ∷ Message RecycleFor ∷ []

-- on caches, directories and TBE tables
abbrev pub calls_on_tables : List Call
calls_on_tables =
    Table Lookup ∷ Table Lookup ∷ Table IsPresent ∷ Table HasPlace ∷ Table Replaced ∷ Table Allocate ∷ Table Deallocate ∷ Table Use
    ∷ Table Lookup ∷ Table Lookup ∷ Value HasLine ∷ Table Allocate
    ∷ Table Lookup ∷ Table Lookup ∷ Table AllocateTbe ∷ Table Deallocate ∷ Table IsPresent ∷ []

-- on sets of controllers and on blocks, and callbacks with two, three and four arguments
abbrev pub calls_on_values : List Call
calls_on_values =
    Set Add ∷ Set Remove ∷ Set ClearSet ∷ Set Count ∷ Set Contains ∷ Set IsEmpty ∷ Set AddAll ∷ Set RemoveAll ∷ Machines Broadcast ∷ Value ClearBlock
    ∷ Controller ReadCallback ∷ Controller ReadCallback ∷ Controller ReadCallback ∷ Controller WriteCallback ∷ Controller WriteCallback ∷ Controller WriteCallback ∷ []

-- the cycle twice, and two that answer their argument; six of these aren't served
abbrev pub plain_calls : List Call
plain_calls =
    Controller Cycle ∷ Controller Cycle ∷ Value Number ∷ Value Number ∷ Machines Home ∷ Value LineAddress ∷ Machines Index ∷ Machines MachineOf
    ∷ NotServed ∷ NotServed ∷ NotServed ∷ NotServed ∷ Message Wake ∷ Message WakeAll ∷ NotServed ∷ NotServed ∷ []

-- those without an effect, and the last three
abbrev pub last_calls : List Call
last_calls = Value Nothing ∷ Value Nothing ∷ Value Nothing ∷ Value Nothing ∷ Value Nothing ∷ Controller Me ∷ Message Stall ∷ Controller SetState ∷ []

unfoldable pub calls : List Call
calls = calls_on_ports ++ calls_on_tables ++ calls_on_values ++ plain_calls ++ last_calls

abbrev pub call_at : ℕ → Call
call_at n = unwrap_or (slice_get calls n) NotServed
