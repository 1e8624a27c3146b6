-- What a machine's setup says of one table or buffer by its number: what it is, the kinds of its fields, and the fields that a
-- new line has. A number without a table or buffer has none; no program names one.
use Rattle.std.specs.Prelude.{ℕ, List, [], Option, IsTrue, IsSomeAnd, slice_get, unwrap_or}
use Rattle.std.specs.Option.{option_map}
use Rattle.ruby_value.specs.declared.kind.Kind.{Kind}
use Rattle.ruby_value.specs.declared.setup.BufferPlace.{BufferPlace}
use Rattle.ruby_value.specs.declared.setup.BufferSetup.{BufferSetup}
use Rattle.ruby_value.specs.declared.setup.MachineSetup.{MachineSetup}
use Rattle.ruby_value.specs.declared.setup.TableSetup.{TableSetup}
use Rattle.ruby_value.specs.declared.setup.TableSize.{TableSize}
use Rattle.ruby_value.specs.declared.value.Value.{Value}
use Rattle.ruby_value.specs.Prelude.{has_kinds}

abbrev pub table_size : MachineSetup → ℕ → Option TableSize
table_size machine table = option_map (λ (s : TableSetup). s.size) (slice_get machine.tables table)

abbrev pub field_kinds : MachineSetup → ℕ → List Kind
field_kinds machine table = unwrap_or (option_map (λ (s : TableSetup). s.kinds) (slice_get machine.tables table)) []

abbrev pub initial_fields : MachineSetup → ℕ → List Value
initial_fields machine table = unwrap_or (option_map (λ (s : TableSetup). s.initial) (slice_get machine.tables table)) []

abbrev pub buffer_place : MachineSetup → ℕ → Option BufferPlace
buffer_place machine buffer = option_map (λ (s : BufferSetup). s.place) (slice_get machine.buffers buffer)

-- those of the buffer's message type
abbrev pub message_kinds : MachineSetup → ℕ → List Kind
message_kinds machine buffer = unwrap_or (option_map (λ (s : BufferSetup). s.kinds) (slice_get machine.buffers buffer)) []

-- the buffer is there, and its messages have fields like these
abbrev pub TakesFields : List BufferSetup → ℕ → List Value → Type 0
TakesFields buffers buffer fields = IsSomeAnd (slice_get buffers buffer) (λ (s : BufferSetup). IsTrue (has_kinds s.kinds fields))
