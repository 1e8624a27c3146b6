use Rattle.std.proofs.Common.{sym, subst}
use Rattle.std.specs.List.Sorted.{IsStrictlyIncreasing}
use Rattle.ctl_face.proofs.Marks.{IsStrictlyIncreasing-marks_from}
use Rattle.ctl_mail.proofs.store.MailStore.begin.Goals as goal

pub returns-clause-mail : goal.returns-clause-mail
returns-clause-mail c = record {
  holds = c.requires.mail.holds;
  marks_ascend = subst IsStrictlyIncreasing (sym c.drop_below.ensures.after) (IsStrictlyIncreasing-marks_from c.args.cycle c.args.self.now.marks.items c.requires.mail.marks_ascend);
  credits_ascend = c.drop_arrived.ensures.order;
}
