-- What the answers of calls mean that take no memory: of a loan, what is lent; of a place of a message, the message there. Where there
-- is none it is an empty one, which no place that a call answers means.
use Rattle.std.specs.Prelude.{[], false, unwrap_or}
use Rattle.std.specs.Borrow.{Bor}
use Rattle.ruby_value.specs.declared.message.Message.{Message}
use Rattle.ruby_value.specs.declared.value.Value.{Value}
use Rattle.ctl_face.specs.declared.message_at.MessageAt.{MessageAt}
use Rattle.ctl_face.specs.Prelude.{LocalView, message_at}

abbrev pub lent : Bor Value → Value
lent value = value.now

abbrev pub no_message : Message
no_message = record { number = record { sender = 0; count = 0 }; buffer = 0; arrival = 0; recycled = false; fields = [] }

abbrev pub message_there : LocalView → MessageAt → Message
message_there v at = unwrap_or (message_at v at) no_message
