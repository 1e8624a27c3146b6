-- The inbox of a controller whose messages are in queues, one for each of its buffers, or stalled under lines: all of them by
-- ascending number. Each message is in the queue of the buffer that it names, and no number is there twice.
use Rattle.std.specs.Prelude.{◌≡◌, ◌<◌, ◌++◌, ℕ, Option, None, Some, List, [], ◌∷◌, Contains, length, map}
use Rattle.std.specs.List.{fold}
use Rattle.ruby_value.specs.declared.message.Message.{Message}
use Rattle.stall_map.specs.declared.stalled.Stalled.{Stalled}
use Rattle.ctl_face.specs.Prelude.{InboxMessage, incoming_message}
use Rattle.ctl_face.specs.Inbox.{with_message}
use Rattle.ctl_mail.specs.Queues.{Queues, queue_of}

abbrev pub waiting_message : Stalled → InboxMessage
waiting_message s = record { message = s.message; waiting = Some s.line }

-- the messages of all queues
abbrev pub queued_messages : Queues → List InboxMessage
queued_messages [] = []
queued_messages (queue ∷ rest) = map incoming_message queue.kept ++ queued_messages rest

unfoldable pub inbox_of : Queues → List Stalled → List InboxMessage
inbox_of queues stalled = fold with_message [] (map waiting_message stalled ++ queued_messages queues)

-- the message is in its buffer's queue, or stalled under a line
abbrev pub IsAt : Queues → List Stalled → Message → Option ℕ → Type 0
IsAt queues stalled m None = Contains (queue_of queues m.buffer) m
IsAt queues stalled m (Some line) = Contains stalled (record { line = line; message = m })

abbrev pub Has : Queues → List Stalled → InboxMessage → Type 0
Has queues stalled o = IsAt queues stalled o.message o.waiting

pub record Holds (queues : Queues) (stalled : List Stalled) : Type 0 where
  pub own_buffer : (buffer : ℕ) (m : Message) → Contains (queue_of queues buffer) m → m.buffer ≡ buffer
  pub one : (a b : InboxMessage) → Has queues stalled a → Has queues stalled b → a.message.number ≡ b.message.number → a ≡ b
  -- a stalled message has a buffer to come back to
  pub homes : (s : Stalled) → Contains stalled s → s.message.buffer < length queues
