-- The front of a buffer: of the messages of an inbox that are ready in it, the least by arrival, then number. Which message
-- of a list that is, `ruby_value` says, as a function (`front`) and as a relation (`IsFront`); what is ready is said here.
use Rattle.std.specs.Prelude.{ℕ, Bool, Option, List, ◌==◌, ◌&&◌, nat_le, is_none}
use Rattle.std.specs.Option.{option_map}
use Rattle.ruby_value.specs.declared.message.Message.{Message}
use Rattle.ruby_value.specs.Front as general
use Rattle.ctl_face.specs.Ctl.{InboxMessage, Mail}
use Rattle.ctl_face.specs.Mailing.{incoming_message}

-- the message is in the buffer, has arrived, and isn't stalled
abbrev pub is_ready : ℕ → ℕ → InboxMessage → Bool
is_ready buffer now m = m.message.buffer == buffer && nat_le m.message.arrival now && is_none m.waiting

-- the front message, if there is one
abbrev pub front : Mail → ℕ → ℕ → Option Message
front mail buffer now =
    option_map (λ (m : InboxMessage). m.message)
    (general.front (is_ready buffer now) (λ (m : InboxMessage). m.message.arrival) (λ (m : InboxMessage). m.message.number) mail.inbox)

-- the same as a relation: a ready message of the inbox before which no ready one comes, or none where none is ready; since a
-- ready message isn't stalled, the inbox has it as it came in
abbrev pub IsFront : List InboxMessage → ℕ → ℕ → Option Message → Type 0
IsFront inbox buffer now answer =
    general.IsFront (is_ready buffer now) (λ (m : InboxMessage). m.message.arrival) (λ (m : InboxMessage). m.message.number) inbox
    (option_map incoming_message answer)
