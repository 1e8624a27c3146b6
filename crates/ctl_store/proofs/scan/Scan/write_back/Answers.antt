use Rattle.std.proofs.Common.{Result, subst, sym, ◌∙◌}
use Rattle.ruby_value.specs.declared.value.Block.{Block}
use Rattle.ctl_face.specs.declared.trouble.Trouble.{Trouble}
use Rattle.ctl_face.specs.Prelude.{DoesWith, block_after_write, write_back}
use Rattle.ctl_store.specs.Prelude.{as_trouble, local_of, scanned}
use Rattle.ctl_store.proofs.CallSteps.{write_step, with_calls}
use Rattle.ctl_store.proofs.Stays.{Steps, scan_kept, scan_same}
use Rattle.ctl_store.proofs.scan.Scan.write_back.Goals as goal

step : (c : goal.After-answer_of)
    → Steps (λ v. write_back v c.args.line c.args.block) (λ v. block_after_write v c.args.line c.args.block) (as_trouble c.write_back.result) c.args.self.now
    (with_calls (scanned c.self.inside.parts.now c.self.inside.routes.now c.self.inside.seed c.deref_mut.result.now) c.write_back.new.self)
step c =
    let same = scan_same c.self.inside.parts.now c.self.inside.routes.now c.self.inside.seed c.deref_mut.result.now c.self.inside.changes.value c.deref_mut.ensures.value ∙ c.self.view_is in
    let kept = scan_kept c.self.inside.parts.now c.self.inside.routes.now c.self.inside.seed c.deref_mut.result.now c.self.inside.changes.value c.deref_mut.ensures.value c.self.invariant in
    write_step (scanned c.self.inside.parts.now c.self.inside.routes.now c.self.inside.seed c.deref_mut.result.now)
    c.in-Some.sequencer c.in-Some.is c.args.self.now c.write_back.new.self c.args.line c.args.block c.write_back.result
    same kept c.write_back.ensures.does c.write_back.ensures.fit

pub invariant_of-self : goal.invariant_of-self
invariant_of-self c = (step c).scan

pub returns-clause-does : goal.returns-clause-does
returns-clause-does c =
    subst (λ (r : Result Block Trouble). DoesWith (write_back (local_of c.args.self.now) c.args.line c.args.block) (block_after_write (local_of c.args.self.now) c.args.line c.args.block) r (local_of c.args.self.now) (local_of (with_calls (scanned c.self.inside.parts.now c.self.inside.routes.now c.self.inside.seed c.deref_mut.result.now) c.write_back.new.self)))
    (sym c.answer_of.ensures) (step c).does

pub returns-clause-lawful : goal.returns-clause-lawful
returns-clause-lawful c = (step c).lawful
