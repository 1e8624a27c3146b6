use Rattle.std.proofs.Common.{◌+◌, arith}
use Rattle.ctl_mail.proofs.Places.{no-more}
use Rattle.ctl_mail.proofs.make.local_last.Goals as goal

pub returns-clause-places : goal.returns-clause-places
returns-clause-places c = record {
  buffers = λ buffer. omega arith;
  networks = λ network n has. no-more c.args.store.now.network_last.items network n (n + 1) (omega arith) has;
  locals = c.put-before.ensures.room;
  lent = omega arith;
  credits = omega arith;
}
