-- Putting the front of a buffer off: it arrives again after a latency, for which the controller will wake, and counts as
-- recycled from then on. A latency that isn't one is told before a buffer without a front.
-- Recycling is SLICC's; that the message keeps its number, and the order of the two faults, are this project's own.
use Rattle.std.specs.Prelude.{ℕ, ℤ, true, [], ◌∷◌, ◌++◌, ◌+◌, Result, Err, nat_abs, if◌then◌else◌}
use Rattle.ruby_value.specs.declared.fault.Fault.TheVariants.{Latency}
use Rattle.ruby_value.specs.declared.fault.Fault.{Fault}
use Rattle.ruby_value.specs.declared.message.Message.{Message}
use Rattle.ruby_value.specs.declared.message.MsgNo.{MsgNo}
use Rattle.ruby_value.specs.Prelude.{with_mark}
use Rattle.ctl_face.specs.AtFront.{AtFront, at_front, after_front}
use Rattle.ctl_face.specs.Ctl.{InboxMessage, Mail}
use Rattle.ctl_face.specs.Front.{front}
use Rattle.ctl_face.specs.Inbox.{changed_message}
use Rattle.ctl_face.specs.Latency.{is_latency}
use Rattle.ctl_face.specs.LocalView.{LocalView}

-- the message arrives again at a cycle
abbrev pub message_arriving_again : ℕ → InboxMessage → InboxMessage
message_arriving_again arrival o = record o { message = record o.message { arrival = arrival; recycled = true } }

abbrev pub mail_with_recycled : Mail → ℕ → Message → Mail
mail_with_recycled mail arrival m =
    record mail { inbox = changed_message mail.inbox m.number (message_arriving_again arrival); marks = with_mark mail.marks arrival }

abbrev pub recycled_mail : Mail → ℕ → ℤ → ℕ → Result AtFront Fault
recycled_mail mail buffer latency now =
    if is_latency latency then at_front (mail_with_recycled mail (now + nat_abs latency)) (front mail buffer now) else Err Latency

abbrev pub recycle : LocalView → ℕ → ℤ → Result LocalView Fault
recycle v buffer latency =
    after_front v (λ (number : MsgNo). record v.acts { recycled = v.acts.recycled ++ number ∷ [] }) (recycled_mail v.ctl.mail buffer latency v.now)
