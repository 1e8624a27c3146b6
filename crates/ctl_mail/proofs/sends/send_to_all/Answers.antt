use Rattle.std.proofs.Common.{◌≡◌, ◌∙◌, ◌+◌, Ok, false, true, length, nat_lt, refl, sym, ap, arith}
use Rattle.std.proofs.lemmas.Bool.{le-ltb, lt-ltb}
use Rattle.ctl_face.specs.Prelude.{Actor, copy_limit}
use Rattle.ctl_mail.specs.Prelude.{mail_of, actor_of, copies_to_all, view_after, view_with_copies, MailView, Told, changed_mail, changed_view, told_by}
use Rattle.ctl_mail.proofs.ToAll.{sent_all, too_many, unrouted}
use Rattle.ctl_mail.proofs.Untold.{without_memory}
use Rattle.ctl_mail.proofs.sends.send_to_all.Goals as goal

pub returns-then-not-reaches_all-clause-does : goal.returns-then-not-reaches_all-clause-does
returns-then-not-reaches_all-clause-does c = (
  unrouted (actor_of c.args.me c.args.seed c.args.routes.now) c.args.network c.args.latency c.args.changes.now.cycle c.args.members.now (view_after c.args.store.now c.args.changes.now) c.args.fields
      (sym c.reaches_all.ensures.value ∙ c.if-not-reaches_all.true),
  refl,
)

pub returns-then-count-changes-clause-does : goal.returns-then-count-changes-clause-does
returns-then-count-changes-clause-does c =
    let mail = changed_mail (mail_of c.args.store.now) (told_by c.args.changes.now) in
    let counts = ap (λ k. k.copies) c.requires.changes.1.counts in
    let many : nat_lt copy_limit (mail.copies + length c.args.members.now) ≡ true =
    lt-ltb copy_limit (mail.copies + length c.args.members.now) (omega (arith, counts, c.count-count.ensures.value, c.if-count-changes.true)) in (
      too_many (actor_of c.args.me c.args.seed c.args.routes.now) c.args.network c.args.latency c.args.changes.now.cycle c.args.members.now (view_after c.args.store.now c.args.changes.now) c.args.fields
          (sym c.reaches_all.ensures.value ∙ c.if-not-reaches_all.false) many,
      refl,
    )

pub returns-in_err-reserve_copies-clause-does : goal.returns-in_err-reserve_copies-clause-does
returns-in_err-reserve_copies-clause-does c =
    without_memory _ _ _ _ c.from_residual.ensures.1 (ap (λ (t : Told). changed_view (mail_of c.args.store.now) t) c.reserve_copies.ensures.same)

pub returns-clause-does : goal.returns-clause-does
returns-clause-does c =
    let first = mail_of c.args.store.now in
    let actor : Actor = actor_of c.args.me c.args.seed c.args.routes.now in
    let mail = changed_mail (mail_of c.args.store.now) (told_by c.args.changes.now) in
    let counts = ap (λ k. k.copies) c.requires.changes.1.counts in
    let few : nat_lt copy_limit (mail.copies + length c.args.members.now) ≡ false =
    le-ltb copy_limit (mail.copies + length c.args.members.now) (omega (arith, counts, c.requires.may.copies_left, c.count-count.ensures.value, c.if-count-changes.false)) in
    sent_all (actor_of c.args.me c.args.seed c.args.routes.now) c.args.network c.args.latency c.args.changes.now.cycle c.args.members.now (view_after c.args.store.now c.args.changes.now) c.args.fields
    (sym c.reaches_all.ensures.value ∙ c.if-not-reaches_all.false) few
    ∙ ap (λ (v : MailView). Ok v)
    (ap (λ (t : Told). view_with_copies c.args.me (changed_view first t) (copies_to_all actor c.args.network c.args.latency c.args.fields t.cycle (changed_mail first t) c.args.members.now)) (sym c.in_ok-reserve_copies.ensures.same)
    ∙ sym c.copy_to_all.ensures.after)
