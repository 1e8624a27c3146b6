use Rattle.ctl_mail.proofs.Logs.{log-none}
use Rattle.ctl_mail.proofs.log.ActLog.new.Goals as goal

pub invariant_of-result : goal.invariant_of-result
invariant_of-result c = rw (c.new.ensures.items, c.new-2.ensures.items) log-none
