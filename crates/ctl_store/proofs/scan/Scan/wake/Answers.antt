use Rattle.std.proofs.Common.{Ok, ◌∙◌}
use Rattle.ctl_face.specs.Prelude.{wake}
use Rattle.ctl_store.specs.Prelude.{scanned}
use Rattle.ctl_store.proofs.MailSteps.{wake_step, with_mail_changes}
use Rattle.ctl_store.proofs.Stays.{Steps, scan_kept, scan_same}
use Rattle.ctl_store.proofs.scan.Scan.wake.Goals as goal

step : (c : goal.After-self-1)
    → Steps (λ v. Ok (wake v c.args.line)) (λ v. tt) c.wake.result c.args.self.now
    (with_mail_changes (scanned c.self.inside.parts.now c.self.inside.routes.now c.self.inside.seed c.deref_mut.result.now) c.wake.new.changes)
step c =
    let same = scan_same c.self.inside.parts.now c.self.inside.routes.now c.self.inside.seed c.deref_mut.result.now c.self.inside.changes.value c.deref_mut.ensures.value ∙ c.self.view_is in
    let kept = scan_kept c.self.inside.parts.now c.self.inside.routes.now c.self.inside.seed c.deref_mut.result.now c.self.inside.changes.value c.deref_mut.ensures.value c.self.invariant in
    wake_step (scanned c.self.inside.parts.now c.self.inside.routes.now c.self.inside.seed c.deref_mut.result.now)
    c.args.self.now c.wake.new.changes c.wake.result same kept c.wake.ensures.cycle c.wake.ensures.changes
    c.args.line c.wake.ensures.does

pub invariant_of-self : goal.invariant_of-self
invariant_of-self c = (step c).scan

pub returns-clause-does : goal.returns-clause-does
returns-clause-does c = (step c).does

pub returns-clause-lawful : goal.returns-clause-lawful
returns-clause-lawful c = (step c).lawful
