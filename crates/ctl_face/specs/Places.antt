-- Where a message of a scan is: in a buffer, by its number, among the messages that the controller had as the scan began. No act
-- changes those, and nothing that is sent in a scan arrives in it. So each front of a scan has a place, and a place that was found
-- once stays good until the scan ends. That messages are told by their numbers is this project's own.
use Rattle.std.specs.Prelude.{Bool, Option, IsSome, ◌==◌, ◌&&◌}
use Rattle.std.specs.List.{find}
use Rattle.std.specs.Option.{option_map}
use Rattle.ruby_value.specs.declared.message.Message.{Message}
use Rattle.ruby_value.specs.Prelude.{same_number}
use Rattle.ctl_face.specs.declared.message_at.MessageAt.{MessageAt}
use Rattle.ctl_face.specs.Ctl.{InboxMessage, Mail}
use Rattle.ctl_face.specs.LocalView.{LocalView}

abbrev pub is_at : MessageAt → InboxMessage → Bool
is_at at o = same_number o.message.number at.number && o.message.buffer == at.buffer

-- the message of a mail at a place, waiting or not
abbrev pub message_in : Mail → MessageAt → Option Message
message_in mail at = option_map (λ (o : InboxMessage). o.message) (find (is_at at) mail.inbox)

-- the message at a place, as the scan began
abbrev pub message_at : LocalView → MessageAt → Option Message
message_at v at = message_in v.start.mail at

-- the place has a message
abbrev pub IsPlace : LocalView → MessageAt → Type 0
IsPlace v at = IsSome (message_at v at)
