use Rattle.std.proofs.Common.{◌≡◌, ◌≤◌, is_some, length}
use Rattle.ctl_face.specs.Prelude.{InboxMessage, woken_mail}
use Rattle.ctl_mail.specs.Prelude.{IsMail, buffer_count, mail_of, HasPlacesToWake, LosesPlaces, mark_room}
use Rattle.ctl_mail.proofs.wakings.make_wake_all.Given as goal

-- with all woken that still wait it is the mail with all woken
abbrev pub invariant-loop-line : goal.invariant-loop-line
invariant-loop-line l = record {
  leads : woken_mail (mail_of l.store) (λ (o : InboxMessage). is_some o.waiting) ≡ woken_mail (mail_of l.initial.store) (λ (o : InboxMessage). is_some o.waiting);
  mail : IsMail l.store;
  buffers : buffer_count l.store ≡ buffer_count l.initial.store;
  marks : mark_room l.initial.store ≤ mark_room l.store;
  waits : l.initial.store.stalls.room ≤ l.store.stalls.room;
  places : LosesPlaces l.initial.store l.store 0;
  room : HasPlacesToWake l.store 0;
}

abbrev pub decreases-loop-line : goal.decreases-loop-line
decreases-loop-line l = length l.store.stalls.kept
