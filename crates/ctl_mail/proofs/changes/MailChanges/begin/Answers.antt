use Rattle.std.proofs.Common.{sym, subst}
use Rattle.ctl_mail.specs.Prelude.{AreOf}
use Rattle.ctl_mail.proofs.Begun.{are-of-none}
use Rattle.ctl_mail.proofs.changes.MailChanges.begin.Goals as goal

pub returns-clause-changes : goal.returns-clause-changes
returns-clause-changes c = subst (AreOf c.args.store.now) (sym c.clear.ensures) (are-of-none c.args.store.now c.args.cycle c.requires)
