-- The acts that can be done to a controller, as data: one for each call of a local, with what the call names. A body's acts are
-- those that its statements ask for; `Again` is that of a transition that has to wait. What an act answers depends on which it is.
-- Tables, buffers and fields go by their numbers within the machine, lines by their line numbers.
use Rattle.std.specs.Prelude.{ℕ, ℤ, Bool, List, Option}
use Rattle.ruby_value.specs.declared.message.Message.{Message}
use Rattle.ruby_value.specs.declared.value.Block.{Block}
use Rattle.ruby_value.specs.declared.value.Ref.{Ref}
use Rattle.ruby_value.specs.declared.value.Value.{Value}

pub data Act : Type 0 where
  -- the cycle, and the controller's actor number
  Now : Act
  Me : Act
  -- on tables
  Get : (r : Ref) (field : ℕ) → Act
  Set : (r : Ref) (field : ℕ) (value : Value) → Act
  Lookup : (table line : ℕ) → Act
  Avail : (table line : ℕ) → Act
  Probe : (table line : ℕ) → Act
  Allocate : (table line : ℕ) → Act
  Deallocate : (table line : ℕ) → Act
  Touch : (table line : ℕ) → Act
  Free : (table : ℕ) → Act
  -- on messages
  Ready : (buffer : ℕ) → Act
  Front : (buffer : ℕ) → Act
  Pop : (buffer : ℕ) → Act
  Stall : (buffer line : ℕ) → Act
  Wake : (line : ℕ) → Act
  WakeAll : Act
  Recycle : (buffer : ℕ) (latency : ℤ) → Act
  Send : (buffer : ℕ) (latency : ℤ) (fields : List Value) → Act
  Slots : (buffer : ℕ) → Act
  -- on requests
  ReadBack : (line : ℕ) (block : Block) → Act
  WriteBack : (line : ℕ) (block : Block) → Act
  -- on the built-in map of states
  State : (line : ℕ) → Act
  SetState : (line state : ℕ) → Act
  -- to wake in the next cycle
  Again : Act

abbrev pub answer : Act → Type 0
answer Now = ℕ
answer Me = ℕ
answer (Get r field) = Value
answer (Set r field value) = Unit {0}
answer (Lookup table line) = Option Ref
answer (Avail table line) = Bool
answer (Probe table line) = ℕ
answer (Allocate table line) = Ref
answer (Deallocate table line) = Unit {0}
answer (Touch table line) = Unit {0}
answer (Free table) = ℕ
answer (Ready buffer) = Bool
answer (Front buffer) = Message
answer (Pop buffer) = Unit {0}
answer (Stall buffer line) = Unit {0}
answer (Wake line) = Unit {0}
answer WakeAll = Unit {0}
answer (Recycle buffer latency) = Unit {0}
answer (Send buffer latency fields) = Unit {0}
answer (Slots buffer) = Option ℕ
answer (ReadBack line block) = Unit {0}
answer (WriteBack line block) = Block
answer (State line) = ℕ
answer (SetState line state) = Unit {0}
answer Again = Unit {0}
