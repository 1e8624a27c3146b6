use Rattle.ctl_mail.proofs.Logs.{log-none}
use Rattle.ctl_mail.proofs.log.ActLog.take.Goals as goal

pub invariant_of-self : goal.invariant_of-self
invariant_of-self c = rw (c.replace.ensures.after, c.new.ensures.items, c.clear.ensures.items) log-none
