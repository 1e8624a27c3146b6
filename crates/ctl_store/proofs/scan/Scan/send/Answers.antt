use Rattle.std.proofs.Common.{ℤ, subst, w64, ◌∙◌}
use Rattle.std.proofs.lemmas.Int.{to_z-of_z}
use Rattle.ctl_mail.specs.Prelude.{MailDoes, actor_of, view_sent, told_by}
use Rattle.ctl_face.specs.Prelude.{enqueue}
use Rattle.ctl_store.specs.Prelude.{scanned}
use Rattle.ctl_store.proofs.MailSteps.{after, before, send_step, with_mail_changes}
use Rattle.ctl_store.proofs.Stays.{Steps, scan_kept, scan_same}
use Rattle.ctl_store.proofs.scan.Scan.send.Goals as goal

step : (c : goal.After-self-1)
    → Steps (λ v. enqueue v c.args.buffer c.args.latency c.args.fields) (λ v. tt) c.send.result c.args.self.now
    (with_mail_changes (scanned c.self.inside.parts.now c.self.inside.routes.now c.self.inside.seed c.deref_mut.result.now) c.send.new.changes)
step c =
    let same = scan_same c.self.inside.parts.now c.self.inside.routes.now c.self.inside.seed c.deref_mut.result.now c.self.inside.changes.value c.deref_mut.ensures.value ∙ c.self.view_is in
    let kept = scan_kept c.self.inside.parts.now c.self.inside.routes.now c.self.inside.seed c.deref_mut.result.now c.self.inside.changes.value c.deref_mut.ensures.value c.self.invariant in
    send_step (scanned c.self.inside.parts.now c.self.inside.routes.now c.self.inside.seed c.deref_mut.result.now)
    c.args.self.now c.send.new.changes c.send.result same kept c.send.ensures.cycle c.send.ensures.changes
    c.args.buffer c.args.latency c.args.fields c.requires
    (subst (λ (z : ℤ). MailDoes (view_sent (before (scanned c.self.inside.parts.now c.self.inside.routes.now c.self.inside.seed c.deref_mut.result.now) c.send.new.changes) c.self.inside.parts.now.machine (actor_of c.self.inside.parts.now.me c.self.inside.seed c.self.inside.routes.now) c.args.buffer z c.args.fields (told_by c.deref_mut.result.now.mail).cycle) c.send.result (before (scanned c.self.inside.parts.now c.self.inside.routes.now c.self.inside.seed c.deref_mut.result.now) c.send.new.changes) (after (scanned c.self.inside.parts.now c.self.inside.routes.now c.self.inside.seed c.deref_mut.result.now) c.send.new.changes))
    (to_z-of_z w64 c.args.latency c.ranges.latency) c.send.ensures.does)

pub invariant_of-self : goal.invariant_of-self
invariant_of-self c = (step c).scan

pub returns-clause-does : goal.returns-clause-does
returns-clause-does c = (step c).does

pub returns-clause-lawful : goal.returns-clause-lawful
returns-clause-lawful c = (step c).lawful
