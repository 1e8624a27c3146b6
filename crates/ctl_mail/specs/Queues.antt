-- The messages of a controller's buffers, by the buffers' numbers, and what an act on one buffer changes.
use Rattle.std.specs.Prelude.{◌≡◌, ◌≢◌, ◌≤◌, ◌+◌, ℕ, Option, None, Some, List, [], slice_get}
use Rattle.ruby_value.specs.declared.message.Message.{Message}
use Rattle.ruby_value.specs.Prelude.{Roomy}

abbrev pub Queues : Type 0
Queues = List (Roomy (List Message))

-- where there is no buffer there is no message
abbrev pub messages_in : Option (Roomy (List Message)) → List Message
messages_in None = []
messages_in (Some queue) = queue.kept

abbrev pub room_in : Option (Roomy (List Message)) → ℕ
room_in None = 0
room_in (Some queue) = queue.room

unfoldable pub queue_of : Queues → ℕ → List Message
queue_of queues buffer = messages_in (slice_get queues buffer)

-- for how many more messages a buffer has room
unfoldable pub room_of : Queues → ℕ → ℕ
room_of queues buffer = room_in (slice_get queues buffer)

-- the buffer has these messages now, and the others have those that they had
pub record Replaces (old new : Queues) (buffer : ℕ) (messages : List Message) : Type 0 where
  pub here : queue_of new buffer ≡ messages
  pub others : (other : ℕ) → other ≢ buffer → queue_of new other ≡ queue_of old other

abbrev pub LosesNoRoom : Queues → Queues → Type 0
LosesNoRoom old new = (buffer : ℕ) → room_of old buffer ≤ room_of new buffer

abbrev pub LosesOneRoom : Queues → Queues → Type 0
LosesOneRoom old new = (buffer : ℕ) → room_of old buffer ≤ room_of new buffer + 1
