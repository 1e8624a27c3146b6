use Rattle.ctl_mail.proofs.Logs.{log-none}
use Rattle.ctl_mail.proofs.log.ActLog.clear.Goals as goal

pub invariant_of-self : goal.invariant_of-self
invariant_of-self c = rw (c.clear.ensures.items, c.clear-2.ensures.items) log-none
