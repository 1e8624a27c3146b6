use Rattle.std.proofs.Common.{◌≡◌, ◌<◌, ℕ, get_or}
use Rattle.ctl_mail.specs.declared.act.MailAct.{MailAct}
use Rattle.ctl_mail.specs.Prelude.{IsMail, buffer_count, mail_of, HasPlaces, LosesPlaces}
use Rattle.ctl_mail.proofs.make.reserve_places.Given as goal

-- the acts before this one have room
abbrev pub invariant-loop-i : goal.invariant-loop-i
invariant-loop-i l = record {
  same : mail_of l.store ≡ mail_of l.initial.store;
  mail : IsMail l.store;
  buffers : buffer_count l.store ≡ buffer_count l.initial.store;
  marks : l.store.marks ≡ l.initial.store.marks;
  stalls : l.store.stalls ≡ l.initial.store.stalls;
  places : LosesPlaces l.initial.store l.store 0;
  made : (k : ℕ) (d : MailAct) → k < l.i → HasPlaces l.store l.more (get_or l.changes.log.kept k d);
}
