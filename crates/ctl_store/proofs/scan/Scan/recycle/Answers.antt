use Rattle.std.proofs.Common.{ℤ, subst, w64, ◌∙◌}
use Rattle.std.proofs.lemmas.Int.{to_z-of_z}
use Rattle.ctl_mail.specs.Prelude.{MailDoes, view_recycled, told_by}
use Rattle.ctl_face.specs.Prelude.{recycle}
use Rattle.ctl_store.specs.Prelude.{scanned}
use Rattle.ctl_store.proofs.MailSteps.{after, before, recycle_step, with_mail_changes}
use Rattle.ctl_store.proofs.Stays.{Steps, scan_kept, scan_same}
use Rattle.ctl_store.proofs.scan.Scan.recycle.Goals as goal

step : (c : goal.After-self-1)
    → Steps (λ v. recycle v c.args.buffer c.args.latency) (λ v. tt) c.recycle.result c.args.self.now
    (with_mail_changes (scanned c.self.inside.parts.now c.self.inside.routes.now c.self.inside.seed c.deref_mut.result.now) c.recycle.new.changes)
step c =
    let same = scan_same c.self.inside.parts.now c.self.inside.routes.now c.self.inside.seed c.deref_mut.result.now c.self.inside.changes.value c.deref_mut.ensures.value ∙ c.self.view_is in
    let kept = scan_kept c.self.inside.parts.now c.self.inside.routes.now c.self.inside.seed c.deref_mut.result.now c.self.inside.changes.value c.deref_mut.ensures.value c.self.invariant in
    recycle_step (scanned c.self.inside.parts.now c.self.inside.routes.now c.self.inside.seed c.deref_mut.result.now)
    c.args.self.now c.recycle.new.changes c.recycle.result same kept c.recycle.ensures.cycle c.recycle.ensures.changes
    c.args.buffer c.args.latency
    (subst (λ (z : ℤ). MailDoes (view_recycled (before (scanned c.self.inside.parts.now c.self.inside.routes.now c.self.inside.seed c.deref_mut.result.now) c.recycle.new.changes) c.args.buffer z (told_by c.deref_mut.result.now.mail).cycle) c.recycle.result (before (scanned c.self.inside.parts.now c.self.inside.routes.now c.self.inside.seed c.deref_mut.result.now) c.recycle.new.changes) (after (scanned c.self.inside.parts.now c.self.inside.routes.now c.self.inside.seed c.deref_mut.result.now) c.recycle.new.changes))
    (to_z-of_z w64 c.args.latency c.ranges.latency) c.recycle.ensures.does)

pub invariant_of-self : goal.invariant_of-self
invariant_of-self c = (step c).scan

pub returns-clause-does : goal.returns-clause-does
returns-clause-does c = (step c).does

pub returns-clause-lawful : goal.returns-clause-lawful
returns-clause-lawful c = (step c).lawful
