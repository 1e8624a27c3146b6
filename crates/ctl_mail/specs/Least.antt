-- Which of some messages comes first: one of them before which none of them comes, by arrival, then number; none where there is
-- none.
use Rattle.std.specs.Prelude.{◌≡◌, ◌≤◌, ◌⊎◌, ℕ, Bool, true, Option, None, Some, List, Contains, if◌then◌else◌}
use Rattle.ruby_value.specs.declared.message.Message.{Message}
use Rattle.ruby_value.specs.declared.message.MsgNo.{MsgNo}
use Rattle.stall_map.specs.declared.stalled.Stalled.{Stalled}
use Rattle.ctl_face.specs.Prelude.{InboxMessage, incoming_message}
use Rattle.msg_buffer.specs.Prelude.{ComesBefore, comes_before}
use Rattle.ctl_mail.specs.Queues.{Queues, queue_of}
use Rattle.ctl_mail.specs.Told.{IsFreeNow, IsOut, Told}

pub record IsFirst (P : Message → Type 0) (m : Message) : Type 0 where
  pub one : P m
  pub none_before : (other : Message) → P other → ComesBefore other m → ⊥

abbrev pub IsLeast : (Message → Type 0) → Option Message → Type 0
IsLeast P None = (m : Message) → P m → ⊥
IsLeast P (Some m) = IsFirst P m

-- a message of an inbox that is ready in a buffer
pub record IsFree (inbox : List InboxMessage) (buffer now : ℕ) (m : Message) : Type 0 where
  pub held : Contains inbox (incoming_message m)
  pub in_buffer : m.buffer ≡ buffer
  pub arrived : m.arrival ≤ now

-- a message of a queue that has arrived
pub record HasArrived (queue : List Message) (now : ℕ) (m : Message) : Type 0 where
  pub held : Contains queue m
  pub arrived : m.arrival ≤ now

-- a message of a queue that has arrived and isn't out
pub record IsLeftIn (queue : List Message) (cycle : ℕ) (Out : MsgNo → Type 0) (m : Message) : Type 0 where
  pub held : Contains queue m
  pub arrived : m.arrival ≤ cycle
  pub not_out : Out m.number → ⊥

-- what was stalled before the scan is ready in a buffer now
pub record IsBackNow (told : Told) (buffer : ℕ) (s : Stalled) : Type 0 where
  pub in_buffer : s.message.buffer ≡ buffer
  pub arrived : s.message.arrival ≤ told.cycle
  pub free : IsFreeNow told s.message.number (Some s.line)

-- the message is of those
pub record IsBack (stalled : List Stalled) (told : Told) (buffer : ℕ) (m : Message) : Type 0 where
  pub line : ℕ
  pub held : Contains stalled (record { line = line; message = m })
  pub now : IsBackNow told buffer (record { line = line; message = m })

-- the message of a number is of those
pub record IsBackOf (stalled : List Stalled) (told : Told) (buffer : ℕ) (number : MsgNo) (m : Message) : Type 0 where
  pub is : IsBack stalled told buffer m
  pub number_is : m.number ≡ number

-- a message of one of these numbers is of those
pub record IsBackAmong (numbers : List MsgNo) (stalled : List Stalled) (told : Told) (buffer : ℕ) (m : Message) : Type 0 where
  pub is : IsBack stalled told buffer m
  pub among : Contains numbers m.number

-- the one of two that comes first, or the only one
abbrev pub first_of_two : Option Message → Option Message → Option Message
first_of_two None b = b
first_of_two (Some x) None = Some x
first_of_two (Some x) (Some y) = if comes_before y x then Some y else Some x

-- The first of some messages and another one, if there is one: where none of those comes before that one, it stays; else it is the first
-- of those.
abbrev pub IsNearer : Message → Option Message → Type 0
IsNearer m None = Unit {0}
IsNearer m (Some x) = ComesBefore m x

pub record IsReplaced (P : Message → Type 0) (old new : Option Message) : Type 0 where
  pub by : Message
  pub is : new ≡ Some by
  pub first : IsFirst P by
  pub nearer : IsNearer by old

pub record IsKept (P : Message → Type 0) (old new : Option Message) : Type 0 where
  pub same : new ≡ old
  pub none_nearer : (m : Message) → P m → IsNearer m old → ⊥

abbrev pub IsFirstWith : (Message → Type 0) → Option Message → Option Message → Type 0
IsFirstWith P old new = IsKept P old new ⊎ IsReplaced P old new

abbrev pub is_nearer : Message → Option Message → Bool
is_nearer m None = true
is_nearer m (Some x) = comes_before m x

-- a message that is ready in a buffer, which its queue has, or which was stalled before the scan
abbrev pub IsEither : Queues → List Stalled → Told → ℕ → Message → Type 0
IsEither queues stalled told buffer m =
    IsLeftIn (queue_of queues buffer) told.cycle (IsOut told) m ⊎ IsBack stalled told buffer m
