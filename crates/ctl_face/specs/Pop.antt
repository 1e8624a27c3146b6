-- Taking the front of a buffer, which SLICC writes `dequeue`: the message is consumed, and where it had a slot, a credit goes to its
-- sender.
use Rattle.std.specs.Prelude.{ℕ, [], ◌∷◌, ◌++◌, Result}
use Rattle.ruby_value.specs.declared.fault.Fault.{Fault}
use Rattle.ruby_value.specs.declared.message.Message.{Message}
use Rattle.ruby_value.specs.declared.message.MsgNo.{MsgNo}
use Rattle.ctl_face.specs.Acts.{Acts}
use Rattle.ctl_face.specs.AtFront.{AtFront, at_front, after_front}
use Rattle.ctl_face.specs.Ctl.{Mail}
use Rattle.ctl_face.specs.Front.{front}
use Rattle.ctl_face.specs.Inbox.{without_message}
use Rattle.ctl_face.specs.LocalView.{Actor, LocalView}
use Rattle.ctl_face.specs.Slots.{mail_after_dequeue, posted_credits}

-- the mail without the message
abbrev pub mail_without : Mail → Message → Mail
mail_without mail m = record mail { inbox = without_message mail.inbox m.number }

abbrev pub popped_mail : Mail → ℕ → ℕ → Result AtFront Fault
popped_mail mail buffer now = at_front (mail_without mail) (front mail buffer now)

-- and with the credit, where the controller itself had sent it
abbrev pub dequeued_mail : Actor → Mail → ℕ → ℕ → Result AtFront Fault
dequeued_mail actor mail buffer now =
    at_front (λ (m : Message). mail_after_dequeue actor buffer now m.number (mail_without mail m)) (front mail buffer now)

abbrev pub acts_after_dequeue : Actor → (buffer now : ℕ) → Acts → MsgNo → Acts
acts_after_dequeue actor buffer now acts number =
    record acts { consumed = acts.consumed ++ number ∷ []; posted = acts.posted ++ posted_credits actor buffer now number }

abbrev pub pop : LocalView → ℕ → Result LocalView Fault
pop v buffer = after_front v (acts_after_dequeue v.actor buffer v.now v.acts) (dequeued_mail v.actor v.ctl.mail buffer v.now)
