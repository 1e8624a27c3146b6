use Rattle.std.proofs.Common.{◌+◌, sym, subst, arith}
use Rattle.std.specs.List.Sorted.{IsStrictlyIncreasing}
use Rattle.ctl_face.proofs.Marks.{IsStrictlyIncreasing-with_mark}
use Rattle.ctl_mail.proofs.Places.{no-more}
use Rattle.ctl_mail.proofs.make.credit.Goals as goal

pub returns-clause-mail : goal.returns-clause-mail
returns-clause-mail c = record {
  holds = c.requires.mail.holds;
  marks_ascend = subst IsStrictlyIncreasing (sym c.put-2.ensures.after) (IsStrictlyIncreasing-with_mark c.args.store.now.marks.items c.args.c.arrival c.requires.mail.marks_ascend);
  credits_ascend = c.put.ensures.order;
}

pub returns-clause-places : goal.returns-clause-places
returns-clause-places c = record {
  buffers = λ buffer. omega arith;
  networks = λ network n has. no-more c.args.store.now.network_last.items network n (n + 1) (omega arith) has;
  locals = omega arith;
  lent = omega arith;
  credits = omega arith;
}
