use Rattle.ctl_mail.proofs.Makes.{same-queues}
use Rattle.ctl_mail.proofs.store.MailStore.reserve_to_wake.Goals as goal

pub returns-clause-same : goal.returns-clause-same
returns-clause-same c = (same-queues c.args.self.now c.reserve.new.buffers c.requires.mail c.reserve.ensures.count c.reserve.ensures.same).0

pub returns-clause-mail : goal.returns-clause-mail
returns-clause-mail c = (same-queues c.args.self.now c.reserve.new.buffers c.requires.mail c.reserve.ensures.count c.reserve.ensures.same).1
