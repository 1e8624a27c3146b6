-- A message that goes out of an inbox and comes back changed, with its number, is changed there.
use Rattle.std.proofs.Common.{◌≡◌, Bool, true, false, List, cond, refl, sym, ap, ◌∙◌, inl, inr, ⊎_elim, Contains}
use Rattle.ruby_value.specs.declared.message.Message.{Message}
use Rattle.ruby_value.specs.Prelude.{same_number}
use Rattle.ctl_face.specs.Prelude.{InboxMessage, NumbersAscend, changed_message, without_message, incoming_message}
use Rattle.ctl_face.specs.Inbox.{with_message}
use Rattle.ctl_face.proofs.Inboxes.{ascend-map, ascend-with, ascend-without}
use Rattle.ctl_face.proofs.OneKey.{changed_message-contains, with_message-contains, without_message-contains}
use Rattle.ctl_mail.proofs.Inboxes.{one-of-ascending, same-lists}

module _ (inbox : List InboxMessage) (m : Message) (change : InboxMessage → InboxMessage) (keeps : (o : InboxMessage) → (change o).message.number ≡ o.message.number) (ascends : NumbersAscend inbox) where
  keeps-either : (o : InboxMessage) (b : Bool) → (cond b (change o) o).message.number ≡ o.message.number
  keeps-either o true = keeps o
  keeps-either o false = refl

  pub ascend-changed : NumbersAscend (changed_message inbox m.number change)
  ascend-changed =
      ascend-map (λ (o : InboxMessage). cond (same_number o.message.number m.number) (change o) o)
      (λ o. keeps-either o (same_number o.message.number m.number)) inbox ascends

module _ (inbox : List InboxMessage) (m : Message) (change : InboxMessage → InboxMessage) (ascends : NumbersAscend inbox) (held : Contains inbox (incoming_message m)) (keeps : (o : InboxMessage) → (change o).message.number ≡ o.message.number) where
  into : (o : InboxMessage) → Contains (with_message (without_message inbox m.number) (change (incoming_message m))) o → Contains (changed_message inbox m.number change) o
  into o has =
      (changed_message-contains inbox m.number change o).1
      (⊎_elim
      (λ same. inr (incoming_message m, held, refl, same))
      (λ so. inl ((without_message-contains inbox m.number o).0 so.0))
      ((with_message-contains (without_message inbox m.number) (change (incoming_message m)) o).0 has))

  back : (o : InboxMessage) → Contains (changed_message inbox m.number change) o → Contains (with_message (without_message inbox m.number) (change (incoming_message m))) o
  back o has =
      (with_message-contains (without_message inbox m.number) (change (incoming_message m)) o).1
      (⊎_elim
      (λ so. inr ((without_message-contains inbox m.number o).1 so, λ same. so.1 (same ∙ keeps (incoming_message m))))
      (λ (so : (x : InboxMessage) × Contains inbox x × (x.message.number ≡ m.number) × (change x ≡ o)).
      inl (ap change (sym (one-of-ascending inbox ascends so.0 (incoming_message m) so.1 held so.2)) ∙ so.3))
      ((changed_message-contains inbox m.number change o).0 has))

  pub readded : with_message (without_message inbox m.number) (change (incoming_message m)) ≡ changed_message inbox m.number change
  readded =
      same-lists (with_message (without_message inbox m.number) (change (incoming_message m))) (changed_message inbox m.number change)
      (ascend-with (without_message inbox m.number) (change (incoming_message m)) (ascend-without inbox m.number ascends)) (ascend-changed inbox m change keeps ascends) into back
