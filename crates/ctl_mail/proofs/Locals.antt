-- The acts of a local on messages are the acts on its mail.
use Rattle.std.proofs.Common.{◌≡◌, ◌∷◌, ◌++◌, [], ℕ, ℤ, List, Result, Ok, Err, refl}
use Rattle.ruby_value.specs.declared.fault.Fault.{Fault}
use Rattle.ruby_value.specs.declared.message.MsgNo.{MsgNo}
use Rattle.ruby_value.specs.declared.value.Value.{Value}
use Rattle.ctl_face.specs.Prelude.{Acts, acts_after_dequeue, again, dequeued_mail, AtFront, after_front, after_sending, enqueue, LocalView, pop, recycle, recycled_mail, Sending, send, slots, stall, stalled_mail, wake, wake_all}
use Rattle.ctl_mail.specs.Prelude.{view_after_sending, view_sent, MailView, mail_view, view_after_front, view_again, view_popped, view_recycled, view_stalled, view_wake, view_wake_all, slots_in, with_mail_view}

-- the local after it, or the fault
abbrev pub in_local : LocalView → Result MailView Fault → Result LocalView Fault
in_local v (Ok w) = Ok (with_mail_view v w)
in_local v (Err fault) = Err fault

front-is : (v : LocalView) (told : MsgNo → Acts) (r : Result AtFront Fault) → after_front v told r ≡ in_local v (view_after_front told r)
front-is v told (Ok a) = refl
front-is v told (Err fault) = refl

pub pop-is : (v : LocalView) (buffer : ℕ) → pop v buffer ≡ in_local v (view_popped v.actor (mail_view v) buffer v.now)
pop-is v buffer = front-is v (acts_after_dequeue v.actor buffer v.now v.acts) (dequeued_mail v.actor v.ctl.mail buffer v.now)

pub slots-is : (v : LocalView) (buffer : ℕ) → slots v buffer ≡ slots_in v.ctl.mail v.machine v.actor buffer v.now
slots-is v buffer = refl

pub again-is : (v : LocalView) → again v ≡ with_mail_view v (view_again (mail_view v) v.now)
again-is v = refl

pub recycle-is : (v : LocalView) (buffer : ℕ) (latency : ℤ) → recycle v buffer latency ≡ in_local v (view_recycled (mail_view v) buffer latency v.now)
recycle-is v buffer latency =
    front-is v (λ (number : MsgNo). record v.acts { recycled = v.acts.recycled ++ number ∷ [] }) (recycled_mail v.ctl.mail buffer latency v.now)

pub stall-is : (v : LocalView) (buffer line : ℕ) → stall v buffer line ≡ in_local v (view_stalled (mail_view v) buffer line v.now)
stall-is v buffer line =
    front-is v (λ (number : MsgNo). record v.acts { stalled = v.acts.stalled ++ number ∷ [] }) (stalled_mail v.ctl.mail buffer line v.now)

pub wake-is : (v : LocalView) (line : ℕ) → wake v line ≡ with_mail_view v (view_wake (mail_view v) line)
wake-is v line = refl

pub wake_all-is : (v : LocalView) → wake_all v ≡ with_mail_view v (view_wake_all (mail_view v))
wake_all-is v = refl

sending-is : (v : LocalView) (r : Result Sending Fault) → after_sending v r ≡ in_local v (view_after_sending v.actor.me (mail_view v) r)
sending-is v (Ok s) = refl
sending-is v (Err fault) = refl

pub enqueue-is : (v : LocalView) (buffer : ℕ) (latency : ℤ) (fields : List Value) → enqueue v buffer latency fields ≡ in_local v (view_sent (mail_view v) v.machine v.actor buffer latency fields v.now)
enqueue-is v buffer latency fields = sending-is v (send v.machine v.actor v.ctl.mail buffer latency fields v.now)
