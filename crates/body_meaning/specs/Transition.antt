-- What a `trigger` does: the state of its line is read, and then comes the first of these that applies. Where no written transition
-- is for the state and the event, the fault is `invalid`. Where a table has fewer free lines than the actions have `check_allocate`
-- statements for it, where some receiver's free slots on a buffer of the controller's own or on a network are fewer than the actions'
-- `enqueue` statements on it, or where `z_stall` is among the actions, the transition is stalled: it runs no action, and the controller
-- wakes in the next cycle. Which receivers the messages will name doesn't matter, and a receiver's buffer without a size is never short
-- of slots; that is this project's own rule. Else it is found which state it enters: the one that it names, the state before where it names none, and for `*`
-- what the machine's `getNextState` answers on the address. Then its actions are done in order, then the state that it enters is set,
-- and then the access permission, where the machine sets it. These two see the line's entry and TBE as the actions have left them, and
-- `getNextState` sees all as it was before them. That it is asked of a transition that isn't stalled alone is this project's own rule,
-- as it is that an answer of `getState` or `getNextState` that is none of the machine's states counts as the first one. A `*` in a
-- machine without that function is the fault `reference`, and no accepted protocol has one.
use Rattle.std.specs.Prelude.{ℕ, ◌+◌, ◌==◌, ◌&&◌, Bool, true, false, Option, None, Some, List, [], ◌∷◌, find, map, nat_lt, unwrap_or}
use Rattle.std.specs.List.{list_any}
use Rattle.slicc_ast.specs.declared.tree.statement.Block.{Block}
use Rattle.ruby_value.specs.declared.fault.Fault.TheVariants.{Invalid}
use Rattle.ruby_value.specs.declared.value.Value.{Value}
use Rattle.ruby_value.specs.declared.value.Value.TheVariants as value
use Rattle.ruby_value.specs.Prelude.{line_of}
use Rattle.ruby_symbols.specs.declared.machine.MachineSymbols.{MachineSymbols}
use Rattle.ruby_symbols.specs.declared.machine.Next.{Next}
use Rattle.ruby_symbols.specs.declared.machine.Next.TheVariants.{To, Asked}
use Rattle.ruby_symbols.specs.declared.machine.TransitionSymbol.{TransitionSymbol}
use Rattle.ruby_symbols.specs.declared.states.StateArgument.{StateArgument}
use Rattle.ruby_symbols.specs.declared.states.StateArgument.TheVariants.{Tbe, Entry, Address, State}
use Rattle.ruby_symbols.specs.Prelude.{get_state_arguments, set_permission_arguments, set_state_arguments}
use Rattle.acts.specs.declared.body_fault.BodyFault.TheVariants as own
use Rattle.acts.specs.Act as act
use Rattle.acts.specs.Prelude.{Acting, ends, stops as stops_body, ◌>>=◌, ◌>>◌, act as done, either, found}
use Rattle.body_meaning.specs.declared.frame.About.{About}
use Rattle.body_meaning.specs.declared.frame.Frame.{Frame}
use Rattle.body_meaning.specs.Reading.{Reading}
use Rattle.body_meaning.specs.declared.thing.Trigger.{Trigger}
use Rattle.body_meaning.specs.Bodies.{calls_of}
use Rattle.body_meaning.specs.Calls.{as_member}
use Rattle.body_meaning.specs.Each.{each}
use Rattle.body_meaning.specs.Frames.{Ended}
use Rattle.body_meaning.specs.Statements.{all_done}
use Rattle.body_meaning.specs.Things.{value_in}
use Rattle.body_meaning.specs.declared.frame.Known.{Known}
use Rattle.body_meaning.specs.declared.frame.Tried.{Tried}
use Rattle.body_meaning.specs.declared.frame.Tried.TheVariants.{Waits, Fires}
use Rattle.body_meaning.specs.Actions.{body_of_action, need, send_count}
use Rattle.body_meaning.specs.Trying.{Trying, stops, looks_up, stop_at, then_try, with_known}

-- Written transitions.

abbrev pub is_among : ℕ → List ℕ → Bool
is_among n ns = list_any (λ m. m == n) ns

abbrev pub is_for : ℕ → ℕ → TransitionSymbol → Bool
is_for state event t = is_among state t.states && is_among event t.events

-- States, which the machine's own functions read and set, or else the built-in map does.

abbrev pub about : Trigger → About
about t = record { address = t.address; entry = t.entry; tbe = t.tbe }

abbrev pub state_argument : MachineSymbols → About → ℕ → StateArgument → Value
state_argument m a state Tbe = value.Entry a.tbe
state_argument m a state Entry = value.Entry a.entry
state_argument m a state Address = value.Addr a.address
state_argument m a state State = value.Enum m.states state

abbrev pub arguments_for : MachineSymbols → About → ℕ → List StateArgument → List Value
arguments_for m a state arguments = map (state_argument m a state) arguments

-- what a function of the machine that gives a state answers to these arguments
abbrev pub state_answered : Reading → ℕ → List Value → Acting ℕ
state_answered s function arguments =
    calls_of s function arguments >>= (λ t. ends (as_member s s.machine.states (value_in t)))

abbrev pub state_by : Reading → About → Option ℕ → Acting ℕ
state_by s a None = done (act.State (line_of a.address))
state_by s a (Some function) = state_answered s function (arguments_for s.machine a 0 (get_state_arguments s.machine))

abbrev pub read_state : Reading → About → Acting ℕ
read_state s a = state_by s a s.machine.get_state

-- the state that is entered for `*`, of a line by its address
abbrev pub next_asked : Reading → (address : ℕ) → Option ℕ → Acting ℕ
next_asked s address None = stops_body own.Reference
next_asked s address (Some function) = state_answered s function (value.Addr address ∷ [])

-- the state that a transition from a state enters, by what it names
abbrev pub next_state : Reading → (address state : ℕ) → Option Next → Acting ℕ
next_state s address state None = ends state
next_state s address state (Some (To next)) = ends next
next_state s address state (Some Asked) = next_asked s address s.machine.get_next_state

abbrev pub state_set : Reading → About → ℕ → Option ℕ → Acting (Unit {0})
state_set s a next None = done (act.SetState (line_of a.address) next)
state_set s a next (Some function) =
    calls_of s function (arguments_for s.machine a next (set_state_arguments s.machine)) >> ends tt

abbrev pub permission_set : Reading → About → ℕ → Option ℕ → Acting (Unit {0})
permission_set s a next None = ends tt
permission_set s a next (Some function) =
    calls_of s function (arguments_for s.machine a next (set_permission_arguments s.machine)) >> ends tt

-- Stalls.

-- the table of this number has fewer free lines than are needed of it
abbrev pub table_short : (ℕ → ℕ) → ℕ → Acting Bool
table_short need table =
    either (need table == 0) (ends false) (done (act.Free table) >>= (λ free. ends (nat_lt free (need table))))

abbrev pub is_fewer : Option ℕ → ℕ → Bool
is_fewer None count = false
is_fewer (Some free) count = nat_lt free count

-- some receiver on the buffer of this number has fewer free slots than messages are sent there
abbrev pub buffer_short : (ℕ → ℕ) → ℕ → Acting Bool
buffer_short sent buffer =
    either (sent buffer == 0) (ends false) (done (act.Slots buffer) >>= (λ free. ends (is_fewer free (sent buffer))))

-- some of these is short, which have the numbers from this one on
abbrev pub is_short : {X : Type 0} → (ℕ → Acting Bool) → ℕ → List X → Acting Bool
is_short short number [] = ends false
is_short short number (x ∷ xs) = short number >>= (λ is. either is (ends true) (is_short short (number + 1) xs))

-- a table is short of lines for these actions, or a buffer is of slots
abbrev pub lacks_room : Reading → List ℕ → Acting Bool
lacks_room s actions =
    is_short (table_short (need s actions)) 0 s.machine.tables
    >>= (λ short. either short (ends true) (is_short (buffer_short (send_count s actions)) 0 s.machine.buffers))

abbrev pub is_stall_among : List ℕ → Option ℕ → Bool
is_stall_among actions None = false
is_stall_among actions (Some stall) = is_among stall actions

-- Actions.

-- what the transition is about after an action
abbrev pub about_left : About → Frame → About
about_left a frame = unwrap_or frame.about a

abbrev pub action_done : Reading → About → ℕ → Acting About
action_done s a number =
    found own.Reference (body_of_action s number)
    >>= (λ (b : Block). all_done s (calls_of s) b.statements (record { names = []; about = Some a })
    >>= (λ (e : Ended). ends (about_left a e.frame)))

-- A try.

abbrev pub waiting : Acting Tried
waiting = done act.Again >> ends Waits

abbrev pub fired : Reading → Trigger → ℕ → ℕ → TransitionSymbol → Acting Tried
fired s t state next row =
    each (action_done s) (about t) row.actions
    >>= (λ a. state_set s a next s.machine.set_state
    >> (permission_set s a next s.machine.set_permission
    >> ends (Fires (record { address = t.address; state = state; event = t.event; next = next }))))

-- of a written transition
abbrev pub row_tried : Reading → Trigger → ℕ → TransitionSymbol → Acting Tried
row_tried s t state row =
    lacks_room s row.actions
    >>= (λ short. either short waiting
    (either (is_stall_among row.actions s.machine.stall) waiting
    (next_state s t.address state row.next >>= (λ next. fired s t state next row))))

abbrev pub known : Trigger → Option ℕ → Known
known t state = record { address = Some t.address; state = state; event = Some t.event }

-- by the written transition for the state, if there is one
abbrev pub found_tried : Reading → Trigger → ℕ → Option TransitionSymbol → Trying Tried
found_tried s t state None =
    looks_up (record { address = t.address; state = state; event = t.event; is_written = false }) (stops (stop_at (known t (Some state)) Invalid))
found_tried s t state (Some row) =
    looks_up (record { address = t.address; state = state; event = t.event; is_written = true }) (with_known (known t (Some state)) (row_tried s t state row))

abbrev pub try : Reading → Trigger → Trying Tried
try s t =
    then_try (with_known (known t None) (read_state s (about t)))
    (λ state. found_tried s t state (find (is_for state t.event) s.machine.transitions))
