-- The messages of a controller. An inbox is a finite map from message numbers to messages, as the list of its messages
-- with ascending numbers, which is this project's own.
use Rattle.std.specs.Prelude.{List, not, map, if◌then◌else◌}
use Rattle.std.specs.List.{filter}
use Rattle.ruby_value.specs.declared.message.MsgNo.{MsgNo}
use Rattle.ruby_value.specs.Prelude.{inserted, number_before, same_number}
use Rattle.ctl_face.specs.Ctl.{InboxMessage}

-- the inbox with a message that wasn't in it
abbrev pub with_message : List InboxMessage → InboxMessage → List InboxMessage
with_message inbox m = inserted (λ (a b : InboxMessage). number_before a.message.number b.message.number) inbox m

-- the inbox without the message of this number
abbrev pub without_message : List InboxMessage → MsgNo → List InboxMessage
without_message inbox number = filter (λ (o : InboxMessage). not (same_number o.message.number number)) inbox

-- the inbox in which the message of this number is another, of the same number
abbrev pub changed_message : List InboxMessage → MsgNo → (InboxMessage → InboxMessage) → List InboxMessage
changed_message inbox number change =
    map (λ (o : InboxMessage). if same_number o.message.number number then change o else o) inbox
