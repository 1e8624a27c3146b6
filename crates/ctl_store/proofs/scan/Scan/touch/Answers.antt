use Rattle.std.proofs.Common.{◌∙◌}
use Rattle.ctl_face.specs.Prelude.{touch}
use Rattle.ctl_store.specs.Prelude.{scanned}
use Rattle.ctl_store.proofs.Stays.{Steps, scan_kept, scan_same}
use Rattle.ctl_store.proofs.TableSteps.{touch_step, with_changes}
use Rattle.ctl_store.proofs.scan.Scan.touch.Goals as goal

step : (c : goal.After-self-1)
    → Steps (λ v. touch v c.args.table c.args.line) (λ v. tt) c.touch.result c.args.self.now
    (with_changes (scanned c.self.inside.parts.now c.self.inside.routes.now c.self.inside.seed c.deref_mut.result.now) c.touch.new.changes)
step c =
    let same = scan_same c.self.inside.parts.now c.self.inside.routes.now c.self.inside.seed c.deref_mut.result.now c.self.inside.changes.value c.deref_mut.ensures.value ∙ c.self.view_is in
    let kept = scan_kept c.self.inside.parts.now c.self.inside.routes.now c.self.inside.seed c.deref_mut.result.now c.self.inside.changes.value c.deref_mut.ensures.value c.self.invariant in
    touch_step (scanned c.self.inside.parts.now c.self.inside.routes.now c.self.inside.seed c.deref_mut.result.now)
    c.args.self.now c.touch.new.changes same kept c.touch.ensures.replays
    c.args.table c.args.line c.touch.result
    c.touch.ensures.does c.touch.ensures.states

pub invariant_of-self : goal.invariant_of-self
invariant_of-self c = (step c).scan

pub returns-clause-does : goal.returns-clause-does
returns-clause-does c = (step c).does

pub returns-clause-lawful : goal.returns-clause-lawful
returns-clause-lawful c = (step c).lawful
