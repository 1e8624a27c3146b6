-- A message that a scan consumes, as one of its changes: where it had a slot, a credit goes to its sender, into the controller's own
-- mail where that is the sender.
use Rattle.std.specs.Prelude.{ℕ, Bool, List, [], ◌∷◌, ◌++◌, ◌==◌, ◌&&◌, if◌then◌else◌}
use Rattle.ruby_value.specs.declared.message.MsgNo.{MsgNo}
use Rattle.ruby_value.specs.declared.message.Delivery.{Delivery}
use Rattle.ctl_face.specs.declared.parcel.Credit.{Credit as CreditOf}
use Rattle.ctl_face.specs.declared.parcel.Parcel.{Parcel}
use Rattle.ctl_face.specs.Prelude.{Actor, acts_after_dequeue, credit_for, had_slot, with_credit_parcel}
use Rattle.ctl_mail.specs.declared.act.MailAct.{MailAct}
use Rattle.ctl_mail.specs.declared.act.MailAct.TheVariants.{Credit, Pop}
use Rattle.ctl_mail.specs.Told.{Told}

-- the credit comes to the controller itself
abbrev pub is_own_credit : Actor → (buffer : ℕ) → MsgNo → Bool
is_own_credit actor buffer number = had_slot actor buffer number && number.sender == actor.me

abbrev pub dequeue_acts : Actor → (buffer now : ℕ) → MsgNo → List MailAct
dequeue_acts actor buffer now number =
    Pop buffer ∷ (if is_own_credit actor buffer number then Credit (credit_for actor buffer now number).message ∷ [] else [])

abbrev pub told_dequeued : Actor → (buffer : ℕ) → MsgNo → Told → Told
told_dequeued actor buffer number old = record old {
  log = old.log ++ dequeue_acts actor buffer old.cycle number;
  acts = acts_after_dequeue actor buffer old.cycle old.acts number;
}

-- a credit for another controller
abbrev pub credit_to : (receiver : ℕ) → CreditOf → Delivery Parcel
credit_to receiver credit = with_credit_parcel (record { receiver = receiver; message = credit })
