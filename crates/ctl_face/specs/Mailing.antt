-- What comes into a controller's mail: a message, which goes into the inbox, a credit, and a mark, which is a cycle at which it must
-- wake. A message or a credit that arrives sets a mark for its arrival, too, which is this project's own rule.
use Rattle.std.specs.Prelude.{ℕ, Bool, true, false, None}
use Rattle.ruby_value.specs.declared.message.Message.{Message}
use Rattle.ruby_value.specs.Prelude.{with_mark}
use Rattle.ctl_face.specs.declared.parcel.Credit.{Credit}
use Rattle.ctl_face.specs.Credits.{with_credit}
use Rattle.ctl_face.specs.Ctl.{InboxMessage, Mail}
use Rattle.ctl_face.specs.Inbox.{with_message}

abbrev pub mail_with_mark : Mail → ℕ → Mail
mail_with_mark mail cycle = record mail { marks = with_mark mail.marks cycle }

-- a message as it comes in
abbrev pub incoming_message : Message → InboxMessage
incoming_message m = record { message = m; waiting = None }

abbrev pub mail_with_message : Mail → Message → Mail
mail_with_message mail m = record mail { inbox = with_message mail.inbox (incoming_message m) }

abbrev pub mail_with_arrival : Mail → Message → Mail
mail_with_arrival mail m = mail_with_mark (mail_with_message mail m) m.arrival

abbrev pub mail_with_credit : Mail → Credit → Mail
mail_with_credit mail c = record (mail_with_mark mail c.arrival) { credits = with_credit mail.credits c }

-- a copy comes to its sender only where that is the receiver
abbrev pub mail_with_delivery : Bool → Mail → Message → Mail
mail_with_delivery false mail m = mail
mail_with_delivery true mail m = mail_with_arrival mail m
