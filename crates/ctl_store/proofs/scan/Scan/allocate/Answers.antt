use Rattle.std.proofs.Common.{ap, sym, ◌∙◌}
use Rattle.std.specs.Option.{option_copied}
use Rattle.ctl_face.specs.Prelude.{allocate, reference_to}
use Rattle.ctl_store.specs.Prelude.{scanned}
use Rattle.ctl_store.proofs.Stays.{Steps, scan_kept, scan_same}
use Rattle.ctl_store.proofs.TableSteps.{allocate_step, initial_is, with_changes}
use Rattle.ctl_store.proofs.scan.Scan.allocate.Goals as goal

step : (c : goal.After-self-1)
    → Steps (λ v. allocate v c.args.table c.args.line) (λ v. reference_to c.args.table c.args.line) c.allocate.result c.args.self.now
    (with_changes (scanned c.self.inside.parts.now c.self.inside.routes.now c.self.inside.seed c.deref_mut.result.now) c.allocate.new.changes)
step c =
    let same = scan_same c.self.inside.parts.now c.self.inside.routes.now c.self.inside.seed c.deref_mut.result.now c.self.inside.changes.value c.deref_mut.ensures.value ∙ c.self.view_is in
    let kept = scan_kept c.self.inside.parts.now c.self.inside.routes.now c.self.inside.seed c.deref_mut.result.now c.self.inside.changes.value c.deref_mut.ensures.value c.self.invariant in
    allocate_step (scanned c.self.inside.parts.now c.self.inside.routes.now c.self.inside.seed c.deref_mut.result.now)
    c.args.self.now c.allocate.new.changes same kept c.allocate.ensures.replays
    c.args.table c.args.line c.in-Some.fields.now c.allocate.result c.requires.line
    (initial_is _ c.in-Some.fields.now (sym (ap option_copied c.in-Some.is) ∙ c.initial_fields.ensures))
    c.allocate.ensures.does c.allocate.ensures.reference c.allocate.ensures.states

pub invariant_of-self : goal.invariant_of-self
invariant_of-self c = (step c).scan

pub returns-clause-does : goal.returns-clause-does
returns-clause-does c = (step c).does

pub returns-clause-lawful : goal.returns-clause-lawful
returns-clause-lawful c = (step c).lawful
