use Rattle.std.proofs.Common.{Result, subst, sym, ◌∙◌}
use Rattle.ctl_face.specs.declared.trouble.Trouble.{Trouble}
use Rattle.ctl_face.specs.Prelude.{Does, read_back}
use Rattle.ctl_store.specs.Prelude.{as_trouble, local_of, scanned}
use Rattle.ctl_store.proofs.CallSteps.{read_step, with_calls}
use Rattle.ctl_store.proofs.Stays.{Steps, scan_kept, scan_same}
use Rattle.ctl_store.proofs.scan.Scan.read_back.Goals as goal

step : (c : goal.After-answer_of)
    → Steps (λ v. read_back v c.args.line c.args.block.now) (λ v. tt) (as_trouble c.read_back.result) c.args.self.now
    (with_calls (scanned c.self.inside.parts.now c.self.inside.routes.now c.self.inside.seed c.deref_mut.result.now) c.read_back.new.self)
step c =
    let same = scan_same c.self.inside.parts.now c.self.inside.routes.now c.self.inside.seed c.deref_mut.result.now c.self.inside.changes.value c.deref_mut.ensures.value ∙ c.self.view_is in
    let kept = scan_kept c.self.inside.parts.now c.self.inside.routes.now c.self.inside.seed c.deref_mut.result.now c.self.inside.changes.value c.deref_mut.ensures.value c.self.invariant in
    read_step (scanned c.self.inside.parts.now c.self.inside.routes.now c.self.inside.seed c.deref_mut.result.now)
    c.in-Some.sequencer c.in-Some.is c.args.self.now c.read_back.new.self c.args.line c.args.block.now c.read_back.result
    same kept c.read_back.ensures.does c.read_back.ensures.fit

pub invariant_of-self : goal.invariant_of-self
invariant_of-self c = (step c).scan

pub returns-clause-does : goal.returns-clause-does
returns-clause-does c =
    subst (λ (r : Result (Unit {0}) Trouble). Does (read_back (local_of c.args.self.now) c.args.line c.args.block.now) r (local_of c.args.self.now) (local_of (with_calls (scanned c.self.inside.parts.now c.self.inside.routes.now c.self.inside.seed c.deref_mut.result.now) c.read_back.new.self)))
    (sym c.answer_of.ensures) (step c).does

pub returns-clause-lawful : goal.returns-clause-lawful
returns-clause-lawful c = (step c).lawful
