use Rattle.std.proofs.Common.{◌∙◌}
use Rattle.ctl_face.specs.Prelude.{stall}
use Rattle.ctl_store.specs.Prelude.{scanned}
use Rattle.ctl_store.proofs.MailSteps.{stall_step, with_mail_changes}
use Rattle.ctl_store.proofs.Stays.{Steps, scan_kept, scan_same}
use Rattle.ctl_store.proofs.scan.Scan.stall.Goals as goal

step : (c : goal.After-self-1)
    → Steps (λ v. stall v c.args.buffer c.args.line) (λ v. tt) c.stall.result c.args.self.now
    (with_mail_changes (scanned c.self.inside.parts.now c.self.inside.routes.now c.self.inside.seed c.deref_mut.result.now) c.stall.new.changes)
step c =
    let same = scan_same c.self.inside.parts.now c.self.inside.routes.now c.self.inside.seed c.deref_mut.result.now c.self.inside.changes.value c.deref_mut.ensures.value ∙ c.self.view_is in
    let kept = scan_kept c.self.inside.parts.now c.self.inside.routes.now c.self.inside.seed c.deref_mut.result.now c.self.inside.changes.value c.deref_mut.ensures.value c.self.invariant in
    stall_step (scanned c.self.inside.parts.now c.self.inside.routes.now c.self.inside.seed c.deref_mut.result.now)
    c.args.self.now c.stall.new.changes c.stall.result same kept c.stall.ensures.cycle c.stall.ensures.changes
    c.args.buffer c.args.line c.requires.line c.stall.ensures.does

pub invariant_of-self : goal.invariant_of-self
invariant_of-self c = (step c).scan

pub returns-clause-does : goal.returns-clause-does
returns-clause-does c = (step c).does

pub returns-clause-lawful : goal.returns-clause-lawful
returns-clause-lawful c = (step c).lawful
