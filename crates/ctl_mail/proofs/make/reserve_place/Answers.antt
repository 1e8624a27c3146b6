use Rattle.ctl_mail.proofs.Makes.{same-queues}
use Rattle.ctl_mail.proofs.make.reserve_place.Goals as goal

pub returns-in-Arrive-clause-same : goal.returns-in-Arrive-clause-same
returns-in-Arrive-clause-same c = (same-queues c.args.store.now c.reserve_at.new.buffers c.requires.mail c.reserve_at.ensures.count c.reserve_at.ensures.same).0

pub returns-in-Arrive-clause-mail : goal.returns-in-Arrive-clause-mail
returns-in-Arrive-clause-mail c = (same-queues c.args.store.now c.reserve_at.new.buffers c.requires.mail c.reserve_at.ensures.count c.reserve_at.ensures.same).1
