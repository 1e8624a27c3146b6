use Rattle.std.proofs.Common.{sym, subst}
use Rattle.std.specs.List.Sorted.{IsStrictlyIncreasing}
use Rattle.ctl_face.proofs.Marks.{IsStrictlyIncreasing-with_mark}
use Rattle.ctl_mail.proofs.make.mark.Goals as goal

pub returns-clause-mail : goal.returns-clause-mail
returns-clause-mail c = record {
  holds = c.requires.mail.holds;
  marks_ascend = subst IsStrictlyIncreasing (sym c.put.ensures.after) (IsStrictlyIncreasing-with_mark c.args.store.now.marks.items c.args.cycle c.requires.mail.marks_ascend);
  credits_ascend = c.requires.mail.credits_ascend;
}
