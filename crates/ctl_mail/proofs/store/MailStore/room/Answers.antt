use Rattle.std.proofs.Common.{sym, subst, ◌∙◌}
use Rattle.std.specs.List.Sorted.{IsStrictlyIncreasing}
use Rattle.ctl_mail.specs.Prelude.{CreditsAscend, mail_of}
use Rattle.ctl_mail.proofs.Makes.{same-queues}
use Rattle.ctl_mail.proofs.store.MailStore.room.Goals as goal

pub returns-clause-same : goal.returns-clause-same
returns-clause-same c =
    let inbox = (mail_of (record c.args.self.now { buffers = c.reserve-3.new.buffers })).inbox in
    (λ i. record (mail_of c.args.self.now) { inbox = inbox; marks = c.reserve.ensures.items i; credits = c.reserve-2.ensures.items i })
    ∙ (same-queues c.args.self.now c.reserve-3.new.buffers c.requires.mail c.reserve-3.ensures.count c.reserve-3.ensures.same).0

pub returns-clause-mail : goal.returns-clause-mail
returns-clause-mail c = record {
  holds = (same-queues c.args.self.now c.reserve-3.new.buffers c.requires.mail c.reserve-3.ensures.count c.reserve-3.ensures.same).1.holds;
  marks_ascend = subst IsStrictlyIncreasing (sym c.reserve.ensures.items) c.requires.mail.marks_ascend;
  credits_ascend = subst CreditsAscend (sym c.reserve-2.ensures.items) c.requires.mail.credits_ascend;
}
