-- What a scan of a controller does by its machine's bodies as action code, in the order of the protocol's own definition. The body of each
-- in port is run in turn; what one triggers is tried: the state of the line is read by a body or the built-in map, the row is looked up,
-- what the row needs and sends is compared with what is free, and the row's own body is run, for `*` after the one that answers the state.
use Rattle.std.specs.Prelude.{ℕ, ◌+◌, ◌==◌, Bool, true, false, Option, None, Some, List, [], ◌∷◌, ◌++◌, nat_lt, if◌then◌else◌}
use Rattle.ruby_value.specs.declared.fault.Fault.TheVariants.{Invalid, Reference}
use Rattle.ruby_value.specs.declared.value.Value.{Value}
use Rattle.ruby_value.specs.declared.value.Value.TheVariants as value
use Rattle.ruby_value.specs.Prelude.{line_of}
use Rattle.ruby_symbols.specs.declared.machine.Next.{Next}
use Rattle.ruby_symbols.specs.declared.machine.Next.TheVariants.{To, Asked}
use Rattle.slicc_plan.specs.declared.row.Row.{Row}
use Rattle.slicc_flow.specs.Checks.{count_in}
use Rattle.slicc_flow.specs.Sends.{sends_in}
use Rattle.machine_table.specs.Prelude.{answer, state_count}
use Rattle.run_journal.specs.declared.entry.FireNote.{FireNote}
use Rattle.acts.specs.Act.{State}
use Rattle.acts.specs.Prelude.{Acting, ends as ends_body, act, either, ◌>>=◌}
use Rattle.body_meaning.specs.declared.frame.Known.{Known}
use Rattle.body_meaning.specs.declared.frame.Tried.{Tried}
use Rattle.body_meaning.specs.declared.frame.Tried.TheVariants.{Waits, Fires}
use Rattle.body_meaning.specs.declared.thing.Trigger.{Trigger}
use Rattle.body_meaning.specs.Prelude.{Trying, about, buffer_short, ends, is_stall_among, known, nothing_known, stop_at, stops, table_short, then_try, unless_fired, waiting, with_known}
use Rattle.code_meaning.specs.declared.code_end.CodeEnd.{CodeEnd}
use Rattle.code_meaning.specs.declared.code_end.CodeEnd.TheVariants as code_end
use Rattle.code_meaning.specs.Prelude.{run_body}
use Rattle.action_gen.specs.Prelude.{about_values}
use Rattle.compiled_protocol.specs.Machine.{MachineCode}

-- a fault with which a body ends is one at which the scan stops
abbrev pub unless_stopped : Known → CodeEnd → Trying CodeEnd
unless_stopped k (code_end.Stop fault) = stops (stop_at k fault)
unless_stopped k end = ends end

-- the state that a body answers, of this enumeration with so many members; what is none of these counts as the first one
abbrev pub member_in : (states count : ℕ) → Value → ℕ
member_in states count (value.Enum number k) = if number == states then (if nat_lt k count then k else 0) else 0
member_in states count _ = 0

abbrev pub state_in : (states count : ℕ) → CodeEnd → ℕ
state_in states count (code_end.Value v) = member_in states count v
state_in states count end = 0

-- some of these is short
abbrev pub any_short : (ℕ → Acting Bool) → List ℕ → Acting Bool
any_short short [] = ends_body false
any_short short (n ∷ ns) = short n >>= (λ is. either is (ends_body true) (any_short short ns))

-- a test, and then what waits for it or else this
abbrev pub unless_waiting : Known → Bool → Trying Tried → Trying Tried
unless_waiting k true next = with_known k waiting
unless_waiting k false next = next

-- the last argument of a transition's body: the state before it, or the one that `*` enters
abbrev pub last_state : Next → (state next : ℕ) → ℕ
last_state (To written) state next = state
last_state Asked state next = next

-- what a port's body triggered, if it did
abbrev pub trigger_in : CodeEnd → Option Trigger
trigger_in (code_end.Trigger event address entry tbe) = Some (record { event = event; address = address; entry = entry; tbe = tbe })
trigger_in end = None

abbrev pub fire_note : Trigger → (state next : ℕ) → FireNote
fire_note t state next = record { address = t.address; state = state; event = t.event; next = next }

module _ (c : MachineCode) where
  -- where this is known of the transition
  abbrev pub body_run : Known → ℕ → List Value → Trying CodeEnd
  body_run k body arguments = then_try (with_known k (run_body c.parts.program body arguments)) (unless_stopped k)

  abbrev pub state_answered : Known → ℕ → List Value → Trying ℕ
  state_answered k body arguments =
      then_try (body_run k body arguments) (λ end. ends (state_in c.states (state_count c.parts.tables c.number) end))

  abbrev pub state_read : Trigger → Option ℕ → Trying ℕ
  state_read t None = with_known (known t None) (act (State (line_of t.address)))
  state_read t (Some body) = state_answered (known t None) body (about_values (about t))

  -- Room.

  abbrev pub needed : Row → ℕ → ℕ
  needed row table = count_in c.parts.flow.0 c.number row.transition table

  abbrev pub sent : Row → ℕ → ℕ
  sent row buffer = sends_in c.parts.flow.1 c.number row.transition buffer

  abbrev pub room_lacks : Row → Acting Bool
  room_lacks row =
      any_short (table_short (needed row)) c.head.checked
      >>= (λ short. either short (ends_body true) (any_short (buffer_short (sent row)) c.head.buffers))

  -- Firing.

  abbrev pub state_asked : Trigger → (state : ℕ) → Option ℕ → Trying ℕ
  state_asked t state None = stops (stop_at (known t (Some state)) Reference)
  state_asked t state (Some body) = state_answered (known t (Some state)) body (value.Addr t.address ∷ [])

  abbrev pub state_entered : Trigger → (state : ℕ) → Next → Trying ℕ
  state_entered t state (To next) = ends next
  state_entered t state Asked = state_asked t state c.head.asks

  abbrev pub row_fired : Trigger → (state next : ℕ) → Row → Trying Tried
  row_fired t state next row =
      then_try
      (body_run (known t (Some state)) (c.head.first + row.transition)
      (about_values (about t) ++ value.Enum c.states (last_state row.next state next) ∷ []))
      (λ end. ends (Fires (fire_note t state next)))

  abbrev pub row_goes_on : Trigger → (state : ℕ) → Row → Trying Tried
  row_goes_on t state row = then_try (state_entered t state row.next) (λ next. row_fired t state next row)

  abbrev pub row_tried : Trigger → (state : ℕ) → Row → Trying Tried
  row_tried t state row =
      let k = known t (Some state) in
      then_try (with_known k (room_lacks row))
      (λ short. unless_waiting k short
      (unless_waiting k (is_stall_among row.actions c.head.stall) (row_goes_on t state row)))

  -- Tries.

  abbrev pub row_or_stop : Trigger → (state : ℕ) → Option Row → Trying Tried
  row_or_stop t state None = stops (stop_at (known t (Some state)) Invalid)
  row_or_stop t state (Some row) = row_tried t state row

  abbrev pub trigger_tried : Trigger → Trying Tried
  trigger_tried t =
      then_try (state_read t c.head.reads)
      (λ state. row_or_stop t state (answer c.parts.tables c.number state t.event))

  abbrev pub tried_if : Option Trigger → Trying Tried
  tried_if None = ends Waits
  tried_if (Some t) = trigger_tried t

  -- Ports.

  abbrev pub port_run : ℕ → Trying Tried
  port_run body = then_try (body_run nothing_known body []) (λ end. tried_if (trigger_in end))

  abbrev pub ports_run : List ℕ → Trying Tried
  ports_run [] = ends Waits
  ports_run (body ∷ bodies) = then_try (port_run body) (unless_fired (ports_run bodies))
