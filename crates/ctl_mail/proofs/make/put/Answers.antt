use Rattle.std.proofs.Common.{refl, List, ℕ, ◌≤◌, ◌+◌, sym, subst, ap, ◌∙◌, arith}
use Rattle.std.specs.List.Sorted.{IsStrictlyIncreasing}
use Rattle.ctl_face.proofs.Marks.{IsStrictlyIncreasing-with_mark}
use Rattle.ctl_mail.specs.Prelude.{mail_of, room_of}
use Rattle.ctl_mail.proofs.Makes.{made-put, new-in-queue}
use Rattle.ctl_mail.proofs.Places.{no-more}
use Rattle.ctl_mail.proofs.make.put.Goals as goal

pub put-requires-clause-new : goal.put-requires-clause-new
put-requires-clause-new c = new-in-queue c.args.store.now c.args.store.now.buffers c.requires.mail refl c.args.m c.requires.new

pub returns-clause-after : goal.returns-clause-after
returns-clause-after c =
    ap (λ (marks : List ℕ). record (mail_of (record c.args.store.now { buffers = c.put.new.buffers })) { marks = marks }) c.put-2.ensures.after
    ∙ (made-put c.args.store.now c.put.new.buffers c.requires.mail c.put.ensures.count c.args.m c.requires.new c.put.ensures.after).0

pub returns-clause-mail : goal.returns-clause-mail
returns-clause-mail c = record {
  holds = (made-put c.args.store.now c.put.new.buffers c.requires.mail c.put.ensures.count c.args.m c.requires.new c.put.ensures.after).1.holds;
  marks_ascend = subst IsStrictlyIncreasing (sym c.put-2.ensures.after) (IsStrictlyIncreasing-with_mark c.args.store.now.marks.items c.args.m.arrival c.requires.mail.marks_ascend);
  credits_ascend = c.requires.mail.credits_ascend;
}

pub returns-clause-places : goal.returns-clause-places
returns-clause-places c = record {
  buffers = λ buffer. (let so : room_of c.args.store.now.buffers.items buffer ≤ room_of c.put.new.buffers.items buffer + 1 = c.put.ensures.room buffer in omega arith);
  networks = λ network n has. no-more c.args.store.now.network_last.items network n (n + 1) (omega arith) has;
  locals = omega arith;
  lent = omega arith;
  credits = omega arith;
}
