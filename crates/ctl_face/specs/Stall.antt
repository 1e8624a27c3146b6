-- The front of a buffer is stalled under a line, which SLICC writes `stall_and_wait`: it keeps its arrival and its number, and
-- whether it was recycled, and waits until it is woken.
use Rattle.std.specs.Prelude.{ℕ, Some, [], ◌∷◌, ◌++◌, Result}
use Rattle.ruby_value.specs.declared.fault.Fault.{Fault}
use Rattle.ruby_value.specs.declared.message.Message.{Message}
use Rattle.ruby_value.specs.declared.message.MsgNo.{MsgNo}
use Rattle.ctl_face.specs.AtFront.{AtFront, at_front, after_front}
use Rattle.ctl_face.specs.Ctl.{InboxMessage, Mail}
use Rattle.ctl_face.specs.Front.{front}
use Rattle.ctl_face.specs.Inbox.{changed_message}
use Rattle.ctl_face.specs.LocalView.{LocalView}

-- the message waits under the line
abbrev pub message_waiting_under : ℕ → InboxMessage → InboxMessage
message_waiting_under line o = record o { waiting = Some line }

abbrev pub mail_with_waiting : Mail → ℕ → Message → Mail
mail_with_waiting mail line m = record mail { inbox = changed_message mail.inbox m.number (message_waiting_under line) }

abbrev pub stalled_mail : Mail → ℕ → ℕ → ℕ → Result AtFront Fault
stalled_mail mail buffer line now = at_front (mail_with_waiting mail line) (front mail buffer now)

abbrev pub stall : LocalView → ℕ → ℕ → Result LocalView Fault
stall v buffer line =
    after_front v (λ (number : MsgNo). record v.acts { stalled = v.acts.stalled ++ number ∷ [] }) (stalled_mail v.ctl.mail buffer line v.now)
