use Rattle.std.proofs.Common.{◌≡◌, Ok, Some, sym, ap, subst, ◌∙◌}
use Rattle.std.specs.Option.{option_copied}
use Rattle.ctl_face.specs.Prelude.{front}
use Rattle.ctl_mail.specs.Prelude.{mail_of, actor_of, AreOf, Told, changed_mail, changed_view, told_by}
use Rattle.ctl_mail.proofs.Dequeues.{are-of-dequeue, does-dequeue}
use Rattle.ctl_mail.proofs.scan.pop.Goals as goal

pub returns-clause-does : goal.returns-clause-does
returns-clause-does c = λ seed.
    let mail = mail_of c.args.store.now in
    let old = told_by c.args.changes.now in
    let m = c.in-Some.m.now in
    let is : front (changed_mail mail old) c.args.buffer old.cycle ≡ Some m = sym c.peek.ensures ∙ ap option_copied c.in-Some.is in
    does-dequeue mail old (actor_of c.args.me seed c.args.routes.now) c.args.buffer m is
    ∙ ap (λ (t : Told). Ok (changed_view mail t)) (sym (c.in_ok-keep_dequeued.ensures.ok seed))

pub returns-clause-changes : goal.returns-clause-changes
returns-clause-changes c =
    let mail = mail_of c.args.store.now in
    let old = told_by c.args.changes.now in
    let m = c.in-Some.m.now in
    let is : front (changed_mail mail old) c.args.buffer old.cycle ≡ Some m = sym c.peek.ensures ∙ ap option_copied c.in-Some.is in
    subst (AreOf c.args.store.now) (sym (c.in_ok-keep_dequeued.ensures.ok 0)) (are-of-dequeue c.args.store.now old (actor_of c.args.me 0 c.args.routes.now) c.args.buffer m is c.requires.changes)

pub returns-clause-cycle : goal.returns-clause-cycle
returns-clause-cycle c = ap (λ (t : Told). t.cycle) (c.in_ok-keep_dequeued.ensures.ok 0)
