use Rattle.std.proofs.Common.{Ok, ◌∙◌}
use Rattle.ctl_face.specs.Prelude.{set_state}
use Rattle.ctl_store.specs.Prelude.{scanned}
use Rattle.ctl_store.proofs.Stays.{Steps, scan_kept, scan_same}
use Rattle.ctl_store.proofs.TableSteps.{set_state_step, with_changes}
use Rattle.ctl_store.proofs.scan.Scan.set_state.Goals as goal

step : (c : goal.After-self-1)
    → Steps (λ v. Ok (set_state v c.args.line c.args.state)) (λ v. tt) c.set_state.result c.args.self.now
    (with_changes (scanned c.self.inside.parts.now c.self.inside.routes.now c.self.inside.seed c.deref_mut.result.now) c.set_state.new.changes)
step c =
    let same = scan_same c.self.inside.parts.now c.self.inside.routes.now c.self.inside.seed c.deref_mut.result.now c.self.inside.changes.value c.deref_mut.ensures.value ∙ c.self.view_is in
    let kept = scan_kept c.self.inside.parts.now c.self.inside.routes.now c.self.inside.seed c.deref_mut.result.now c.self.inside.changes.value c.deref_mut.ensures.value c.self.invariant in
    set_state_step (scanned c.self.inside.parts.now c.self.inside.routes.now c.self.inside.seed c.deref_mut.result.now)
    c.args.self.now c.set_state.new.changes same kept c.set_state.ensures.replays
    c.args.line c.args.state c.set_state.result c.requires.served c.requires.line
    c.set_state.ensures.ok c.set_state.ensures.err c.set_state.ensures.memory c.set_state.ensures.tables

pub invariant_of-self : goal.invariant_of-self
invariant_of-self c = (step c).scan

pub returns-clause-does : goal.returns-clause-does
returns-clause-does c = (step c).does

pub returns-clause-lawful : goal.returns-clause-lawful
returns-clause-lawful c = (step c).lawful
