use Rattle.std.proofs.Common.{◌≡◌}
use Rattle.std.specs.VecDeque.{deque_len}
use Rattle.ctl_mail.specs.Prelude.{IsMail, buffer_count, mail_of, HasRoomToMake, AreMakeable, after_acts, told_by}
use Rattle.ctl_mail.proofs.store.MailStore.apply.Given as goal

-- what is left to be made leads to the changed mail
abbrev pub invariant-loop-act : goal.invariant-loop-act
invariant-loop-act l = record {
  mail : IsMail l.self;
  buffers : buffer_count l.self ≡ buffer_count l.initial.self;
  leads : after_acts l.changes.cycle (mail_of l.self) l.acts.items ≡ after_acts l.initial.changes.cycle (mail_of l.initial.self) l.initial.acts.items;
  room : HasRoomToMake l.self l.acts.items;
  makeable : AreMakeable l.changes.cycle (mail_of l.self) l.acts.items;
  cycle : l.changes.cycle ≡ l.initial.changes.cycle;
  acts : (told_by l.changes).acts ≡ (told_by l.initial.changes).acts;
}

abbrev pub decreases-loop-act : goal.decreases-loop-act
decreases-loop-act l = deque_len l.acts
