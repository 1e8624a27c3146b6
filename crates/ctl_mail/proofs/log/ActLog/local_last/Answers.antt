use Rattle.std.proofs.Common.{List, None, sym, ap, ◌∙◌}
use Rattle.std.specs.List.{fold}
use Rattle.ruby_value.specs.Prelude.{Roomy}
use Rattle.ctl_mail.specs.declared.act.MailAct.{MailAct}
use Rattle.ctl_mail.specs.Log.{newer_local}
use Rattle.ctl_mail.proofs.Logs.{locals-are, no-local}
use Rattle.ctl_mail.proofs.log.ActLog.local_last.Goals as goal

pub returns-then-self-eq0 : goal.returns-then-self-eq0
returns-then-self-eq0 c =
    let acts : List MailAct = c.self.inside.acts.items in
    sym (no-local c.args.buffer acts None (sym (locals-are acts c.self.inside.counts c.self.invariant.counted) ∙ c.if-self-eq0.true))
    ∙ ap (λ (r : Roomy (List MailAct)). fold (newer_local c.args.buffer) None r.kept) c.self.view_is
