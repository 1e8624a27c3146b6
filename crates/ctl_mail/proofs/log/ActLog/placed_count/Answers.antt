use Rattle.std.proofs.Common.{List, count_by, ap, ◌∙◌}
use Rattle.ruby_value.specs.Prelude.{Roomy}
use Rattle.ctl_mail.specs.declared.act.MailAct.{MailAct}
use Rattle.ctl_mail.specs.Log.{is_placed}
use Rattle.ctl_mail.proofs.Logs.{placed-are}
use Rattle.ctl_mail.proofs.log.ActLog.placed_count.Goals as goal

pub returns : goal.returns
returns c = placed-are c.self.inside.acts.items c.self.inside.counts c.self.invariant.counted ∙ ap (λ (r : Roomy (List MailAct)). count_by is_placed r.kept) c.self.view_is
