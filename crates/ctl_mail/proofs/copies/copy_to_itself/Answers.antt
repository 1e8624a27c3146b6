use Rattle.std.proofs.Common.{◌≡◌, ◌<◌, ◌+◌, true, false, refl, sym, subst, ap, ◌∙◌, arith}
use Rattle.ruby_value.specs.declared.message.Delivery.{Delivery}
use Rattle.ruby_value.specs.declared.message.Message.{Message}
use Rattle.ctl_face.specs.Prelude.{last_at, local_arrival}
use Rattle.ctl_mail.specs.declared.act.MailAct.TheVariants.{LocalLast}
use Rattle.ctl_mail.specs.declared.sent.SendCounts.{SendCounts}
use Rattle.ctl_mail.specs.Prelude.{mail_of, copy_at, told_with_act, told_with_copy, AreOf, changed_mail, changed_view, told_by}
use Rattle.ctl_mail.proofs.Sending.{are-copied, are-local-last, copy-as, later-than, local-as, view-local-ordered, view-local-unordered}
use Rattle.ctl_mail.proofs.copies.copy_to_itself.Goals as goal

pub returns-then-ordered-clause-after : goal.returns-then-ordered-clause-after
returns-then-ordered-clause-after c =
    let store = c.args.store.now in
    let first = mail_of store in
    let old = told_by c.args.changes.now in
    let mail = changed_mail first old in
    let me = c.args.me in
    let arrival = c.local_arrival-arrival.result in
    let kept : Delivery Message = copy_at me old.counts.sent me c.args.buffer arrival c.args.fields in
    let sent : old.counts.sent ≡ mail.sent = ap (λ (k : SendCounts). k.sent) c.requires.changes.1.counts in
    let at = local_arrival c.args.ordered mail c.args.buffer c.args.latency old.cycle in
    let wanted : Delivery Message = copy_at me mail.sent me c.args.buffer at c.args.fields in
    let same : kept ≡ wanted = copy-as me old.counts.sent mail.sent me c.args.buffer c.args.buffer arrival at c.args.fields sent refl c.local_arrival-arrival.ensures in
    let final : told_by c.keep_act.new.self ≡ told_with_act (LocalLast c.args.buffer arrival) (told_with_copy me c.args.routes.now false kept old) =
    c.keep_act.ensures.after ∙ ap (told_with_act (LocalLast c.args.buffer arrival)) c.keep_copy.ensures.after in
    λ seed. ap (changed_view first) final ∙ (view-local-ordered first me c.args.routes.now old c.args.buffer kept ∙ local-as first me c.args.routes.now old true c.args.ordered c.args.buffer kept wanted (sym c.if-ordered.true) same)

pub returns-then-ordered-clause-changes : goal.returns-then-ordered-clause-changes
returns-then-ordered-clause-changes c =
    let store = c.args.store.now in
    let first = mail_of store in
    let old = told_by c.args.changes.now in
    let mail = changed_mail first old in
    let me = c.args.me in
    let arrival = c.local_arrival-arrival.result in
    let kept : Delivery Message = copy_at me old.counts.sent me c.args.buffer arrival c.args.fields in
    let sent : old.counts.sent ≡ mail.sent = ap (λ (k : SendCounts). k.sent) c.requires.changes.1.counts in
    let number : kept.message.number ≡ record { sender = me; count = mail.sent } = λ i. record { sender = me; count = sent i } in
    let last = last_at mail.local_last c.args.buffer in
    let due = old.cycle + c.args.latency in
    let ahead : old.cycle < due = omega (arith, c.requires.latency.0) in
    let later : old.cycle < arrival = later-than old.cycle due last arrival c.args.ordered c.local_arrival-arrival.ensures ahead in
    let final : told_by c.keep_act.new.self ≡ told_with_act (LocalLast c.args.buffer arrival) (told_with_copy me c.args.routes.now false kept old) =
    c.keep_act.ensures.after ∙ ap (told_with_act (LocalLast c.args.buffer arrival)) c.keep_copy.ensures.after in
    subst (AreOf store) (sym final)
    (are-local-last store c.args.buffer arrival (told_with_copy me c.args.routes.now false kept old)
    (are-copied store me c.args.routes.now false kept old c.requires.cycle c.requires.may later number c.requires.changes))

pub returns-else-ordered-clause-after : goal.returns-else-ordered-clause-after
returns-else-ordered-clause-after c =
    let store = c.args.store.now in
    let first = mail_of store in
    let old = told_by c.args.changes.now in
    let mail = changed_mail first old in
    let me = c.args.me in
    let arrival = c.local_arrival-arrival.result in
    let kept : Delivery Message = copy_at me old.counts.sent me c.args.buffer arrival c.args.fields in
    let sent : old.counts.sent ≡ mail.sent = ap (λ (k : SendCounts). k.sent) c.requires.changes.1.counts in
    let at = local_arrival c.args.ordered mail c.args.buffer c.args.latency old.cycle in
    let wanted : Delivery Message = copy_at me mail.sent me c.args.buffer at c.args.fields in
    let same : kept ≡ wanted = copy-as me old.counts.sent mail.sent me c.args.buffer c.args.buffer arrival at c.args.fields sent refl c.local_arrival-arrival.ensures in
    λ seed. ap (changed_view first) c.keep_copy.ensures.after ∙ (view-local-unordered first me c.args.routes.now old c.args.buffer kept ∙ local-as first me c.args.routes.now old false c.args.ordered c.args.buffer kept wanted (sym c.if-ordered.false) same)

pub returns-else-ordered-clause-changes : goal.returns-else-ordered-clause-changes
returns-else-ordered-clause-changes c =
    let store = c.args.store.now in
    let first = mail_of store in
    let old = told_by c.args.changes.now in
    let mail = changed_mail first old in
    let me = c.args.me in
    let arrival = c.local_arrival-arrival.result in
    let kept : Delivery Message = copy_at me old.counts.sent me c.args.buffer arrival c.args.fields in
    let sent : old.counts.sent ≡ mail.sent = ap (λ (k : SendCounts). k.sent) c.requires.changes.1.counts in
    let number : kept.message.number ≡ record { sender = me; count = mail.sent } = λ i. record { sender = me; count = sent i } in
    let last = last_at mail.local_last c.args.buffer in
    let due = old.cycle + c.args.latency in
    let ahead : old.cycle < due = omega (arith, c.requires.latency.0) in
    let later : old.cycle < arrival = later-than old.cycle due last arrival c.args.ordered c.local_arrival-arrival.ensures ahead in
    subst (AreOf store) (sym c.keep_copy.ensures.after)
    (are-copied store me c.args.routes.now false kept old c.requires.cycle c.requires.may later number c.requires.changes)
