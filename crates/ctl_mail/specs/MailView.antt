-- What a scan has done to a controller's mail: the mail as its acts have left it, and what they have done to messages. The acts
-- of a local on messages are these acts on its mail and its list of acts; nothing else of the local changes.
use Rattle.std.specs.Prelude.{◌≡◌, ◌+◌, ◌++◌, ℕ, ℤ, Bool, true, [], ◌∷◌, Result, Ok, Err, is_some}
use Rattle.ruby_value.specs.declared.fault.Fault.{Fault}
use Rattle.ruby_value.specs.declared.message.MsgNo.{MsgNo}
use Rattle.ctl_face.specs.Prelude.{Actor, Acts, AtFront, InboxMessage, Mail, LocalView, acts_after_dequeue, dequeued_mail, mail_with_mark, recycled_mail, stalled_mail, is_under, numbers_where, woken_mail}
use Rattle.ctl_face.specs.declared.trouble.Trouble.{Trouble}
use Rattle.ctl_face.specs.declared.trouble.Trouble.TheVariants as trouble

pub record MailView : Type 0 where
  pub mail : Mail
  pub acts : Acts

-- an act on the front
abbrev pub view_after_front : (MsgNo → Acts) → Result AtFront Fault → Result MailView Fault
view_after_front told (Ok a) = Ok (record { mail = a.mail; acts = told a.number })
view_after_front told (Err fault) = Err fault

abbrev pub view_popped : Actor → MailView → ℕ → ℕ → Result MailView Fault
view_popped actor v buffer now = view_after_front (acts_after_dequeue actor buffer now v.acts) (dequeued_mail actor v.mail buffer now)

abbrev pub view_recycled : MailView → ℕ → ℤ → ℕ → Result MailView Fault
view_recycled v buffer latency now =
    view_after_front (λ (number : MsgNo). record v.acts { recycled = v.acts.recycled ++ number ∷ [] }) (recycled_mail v.mail buffer latency now)

abbrev pub view_stalled : MailView → ℕ → ℕ → ℕ → Result MailView Fault
view_stalled v buffer line now =
    view_after_front (λ (number : MsgNo). record v.acts { stalled = v.acts.stalled ++ number ∷ [] }) (stalled_mail v.mail buffer line now)

-- the messages that pass the test are woken
abbrev pub view_woken : MailView → (InboxMessage → Bool) → MailView
view_woken v test = record { mail = woken_mail v.mail test; acts = record v.acts { woken = v.acts.woken ++ numbers_where v.mail test } }

abbrev pub view_wake : MailView → ℕ → MailView
view_wake v line = view_woken v (λ (o : InboxMessage). is_under line o.waiting)

abbrev pub view_wake_all : MailView → MailView
view_wake_all v = view_woken v (λ (o : InboxMessage). is_some o.waiting)

abbrev pub view_again : MailView → ℕ → MailView
view_again v now = record { mail = mail_with_mark v.mail (now + 1); acts = record v.acts { again = true } }

-- what a call does, by what its definition has for it: after a fault and without memory nothing has changed
abbrev pub MailDoes : Result MailView Fault → Result (Unit {0}) Trouble → MailView → MailView → Type 0
MailDoes want (Ok done) old new = want ≡ Ok new
MailDoes want (Err (trouble.Fault fault)) old new = (want ≡ Err fault) × (new ≡ old)
MailDoes want (Err trouble.NoMemory) old new = new ≡ old

-- the mail and the acts of a local
abbrev pub mail_view : LocalView → MailView
mail_view v = record { mail = v.ctl.mail; acts = v.acts }

-- the local with another mail and other acts
abbrev pub with_mail_view : LocalView → MailView → LocalView
with_mail_view v w = record v { ctl = record v.ctl { mail = w.mail }; acts = w.acts }
