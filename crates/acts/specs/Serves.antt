-- Which acts a machine serves, as a test of its setup: those whose table, buffer and field are there and are ones for the act,
-- whose line is one, and whose value or message has the kinds that are declared. It is what the calls of a local require.
use Rattle.std.specs.Prelude.{ℕ, Bool, true, false, ◌&&◌, Option, None, Some, is_some, nat_lt, slice_get}
use Rattle.ruby_value.specs.declared.kind.Kind.{Kind}
use Rattle.ruby_value.specs.declared.setup.MachineSetup.{MachineSetup}
use Rattle.ruby_value.specs.declared.value.Value.{Value}
use Rattle.ruby_value.specs.Prelude.{has_kind, has_kinds, line_limit}
use Rattle.ctl_face.specs.Prelude.{buffer_place, field_kinds, message_kinds, table_size, deallocates, is_cache, is_tbe_table, looks_up, receives, sends}
use Rattle.acts.specs.Act.{Act, Now, Me, Get, Set, Lookup, Avail, Probe, Allocate, Deallocate, Touch, Free, Ready, Front, Pop, Stall, Wake, WakeAll, Recycle, Send, Slots, ReadBack, WriteBack, State, SetState, Again}

abbrev pub is_line : ℕ → Bool
is_line line = nat_lt line line_limit

-- a field of this kind, if there is one, may hold the value
abbrev pub takes : Option Kind → Value → Bool
takes None value = false
takes (Some kind) value = has_kind kind value

abbrev pub has_field : MachineSetup → ℕ → ℕ → Bool
has_field m table field = is_some (slice_get (field_kinds m table) field)

abbrev pub takes_field : MachineSetup → ℕ → ℕ → Value → Bool
takes_field m table field value = takes (slice_get (field_kinds m table) field) value

abbrev pub serves : MachineSetup → Act → Bool
serves m Now = true
serves m Me = true
serves m (Get r field) = is_line r.line && has_field m r.table field
serves m (Set r field value) = is_line r.line && takes_field m r.table field value
serves m (Lookup table line) = is_line line && looks_up (table_size m table)
serves m (Avail table line) = is_line line && is_cache (table_size m table)
serves m (Probe table line) = is_line line && is_cache (table_size m table)
serves m (Allocate table line) = is_line line && looks_up (table_size m table)
serves m (Deallocate table line) = is_line line && deallocates (table_size m table)
serves m (Touch table line) = is_line line && is_cache (table_size m table)
serves m (Free table) = is_tbe_table (table_size m table)
serves m (Ready buffer) = receives (buffer_place m buffer)
serves m (Front buffer) = receives (buffer_place m buffer)
serves m (Pop buffer) = receives (buffer_place m buffer)
serves m (Stall buffer line) = is_line line && receives (buffer_place m buffer)
serves m (Wake line) = is_line line
serves m WakeAll = true
serves m (Recycle buffer latency) = receives (buffer_place m buffer)
serves m (Send buffer latency fields) = sends (buffer_place m buffer) && has_kinds (message_kinds m buffer) fields
serves m (Slots buffer) = sends (buffer_place m buffer)
serves m (ReadBack line block) = is_line line
serves m (WriteBack line block) = is_line line
serves m (State line) = is_line line && is_some m.default_state
serves m (SetState line state) = is_line line && is_some m.default_state
serves m Again = true
