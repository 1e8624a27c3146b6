use Rattle.std.proofs.Common.{◌∙◌}
use Rattle.ctl_face.specs.Prelude.{set}
use Rattle.ctl_store.specs.Prelude.{scanned}
use Rattle.ctl_store.proofs.Stays.{Steps, scan_kept, scan_same}
use Rattle.ctl_store.proofs.TableSteps.{field_within, set_step, with_changes}
use Rattle.ctl_store.proofs.scan.Scan.set.Goals as goal

pub set-requires-clause-within : goal.set-requires-clause-within
set-requires-clause-within c =
    let same = scan_same c.self.inside.parts.now c.self.inside.routes.now c.self.inside.seed c.deref_mut.result.now c.self.inside.changes.value c.deref_mut.ensures.value ∙ c.self.view_is in
    let kept = scan_kept c.self.inside.parts.now c.self.inside.routes.now c.self.inside.seed c.deref_mut.result.now c.self.inside.changes.value c.deref_mut.ensures.value c.self.invariant in
    field_within (scanned c.self.inside.parts.now c.self.inside.routes.now c.self.inside.seed c.deref_mut.result.now)
    c.args.self.now c.args.r.now c.args.field c.args.v same kept c.requires.served

step : (c : goal.After-self-1)
    → Steps (λ v. set v c.args.r.now c.args.field c.args.v) (λ v. tt) c.set.result c.args.self.now
    (with_changes (scanned c.self.inside.parts.now c.self.inside.routes.now c.self.inside.seed c.deref_mut.result.now) c.set.new.changes)
step c =
    let same = scan_same c.self.inside.parts.now c.self.inside.routes.now c.self.inside.seed c.deref_mut.result.now c.self.inside.changes.value c.deref_mut.ensures.value ∙ c.self.view_is in
    let kept = scan_kept c.self.inside.parts.now c.self.inside.routes.now c.self.inside.seed c.deref_mut.result.now c.self.inside.changes.value c.deref_mut.ensures.value c.self.invariant in
    set_step (scanned c.self.inside.parts.now c.self.inside.routes.now c.self.inside.seed c.deref_mut.result.now)
    c.args.self.now c.set.new.changes same kept c.set.ensures.replays
    c.args.r.now c.args.field c.args.v c.set.result c.requires.served c.requires.line
    c.set.ensures.does c.set.ensures.states

pub invariant_of-self : goal.invariant_of-self
invariant_of-self c = (step c).scan

pub returns-clause-does : goal.returns-clause-does
returns-clause-does c = (step c).does

pub returns-clause-lawful : goal.returns-clause-lawful
returns-clause-lawful c = (step c).lawful
