use Rattle.std.proofs.Common.{sym, ◌∙◌}
use Rattle.ctl_mail.proofs.Collected.{collected}
use Rattle.ctl_mail.proofs.sends.named.Goals as goal

pub returns : goal.returns
returns c = c.in_ok-clone.ensures.cases ∙ sym (collected c.args.members.now c.count-count.ensures.increasing)
