use Rattle.std.proofs.Common.{Ok, ◌∙◌}
use Rattle.ctl_face.specs.Prelude.{wake_all}
use Rattle.ctl_store.specs.Prelude.{scanned}
use Rattle.ctl_store.proofs.MailSteps.{wake_all_step, with_mail_changes}
use Rattle.ctl_store.proofs.Stays.{Steps, scan_kept, scan_same}
use Rattle.ctl_store.proofs.scan.Scan.wake_all.Goals as goal

step : (c : goal.After-self-1)
    → Steps (λ v. Ok (wake_all v)) (λ v. tt) c.wake_all.result c.args.self.now
    (with_mail_changes (scanned c.self.inside.parts.now c.self.inside.routes.now c.self.inside.seed c.deref_mut.result.now) c.wake_all.new.changes)
step c =
    let same = scan_same c.self.inside.parts.now c.self.inside.routes.now c.self.inside.seed c.deref_mut.result.now c.self.inside.changes.value c.deref_mut.ensures.value ∙ c.self.view_is in
    let kept = scan_kept c.self.inside.parts.now c.self.inside.routes.now c.self.inside.seed c.deref_mut.result.now c.self.inside.changes.value c.deref_mut.ensures.value c.self.invariant in
    wake_all_step (scanned c.self.inside.parts.now c.self.inside.routes.now c.self.inside.seed c.deref_mut.result.now)
    c.args.self.now c.wake_all.new.changes c.wake_all.result same kept c.wake_all.ensures.cycle c.wake_all.ensures.changes
    c.wake_all.ensures.does

pub invariant_of-self : goal.invariant_of-self
invariant_of-self c = (step c).scan

pub returns-clause-does : goal.returns-clause-does
returns-clause-does c = (step c).does

pub returns-clause-lawful : goal.returns-clause-lawful
returns-clause-lawful c = (step c).lawful
