use Rattle.std.proofs.Common.{◌≡◌, ◌<◌, ◌+◌, ◌*◌, ℕ, true, false, Option, unwrap_or, sym, subst, ap, ◌∙◌, arith}
use Rattle.ruby_value.specs.declared.message.Delivery.{Delivery}
use Rattle.ruby_value.specs.declared.message.Message.{Message}
use Rattle.ctl_face.specs.Prelude.{Actor, last_at, lasts_on, is_ordered, path_to, receiving_buffer, has_jitter, network_arrival}
use Rattle.ctl_mail.specs.declared.act.MailAct.TheVariants.{NetworkLast}
use Rattle.ctl_mail.specs.declared.sent.SendCounts.{SendCounts}
use Rattle.ctl_mail.specs.Prelude.{mail_of, MaySend, actor_of, jitter_at, copy_at, told_with_act, told_with_copy, AreOf, changed_mail, changed_view, told_by}
use Rattle.ctl_mail.proofs.Sending.{are-copied, are-last, are-words, arrival-as, copy-as, later-than, may-copied, may-last, one-as, space-as, view-ordered, view-unordered}
use Rattle.ctl_mail.proofs.copies.copy_to.Goals as goal

pub returns-then-ordered-clause-after : goal.returns-then-ordered-clause-after
returns-then-ordered-clause-after c =
    let store = c.args.store.now in
    let first = mail_of store in
    let old = told_by c.args.changes.now in
    let mail = changed_mail first old in
    let me = c.args.me in
    let drawn = c.is_some-drawn.result in
    let arrival = c.network_arrival-arrival.result in
    let kept : Delivery Message = copy_at me old.counts.sent c.args.receiver c.unwrap_or-buffer.result arrival c.args.fields in
    let sent : old.counts.sent ≡ mail.sent = ap (λ (k : SendCounts). k.sent) c.requires.changes.1.counts in
    let actor : Actor = actor_of me c.args.seed c.args.routes.now in
    let to = unwrap_or (receiving_buffer c.args.routes.now c.args.receiver c.args.network) 0 in
    let at = network_arrival actor mail c.args.network c.args.latency old.cycle c.args.receiver in
    let last = last_at (lasts_on mail.network_last c.args.network) c.args.receiver in
    let arrives : arrival ≡ at =
    c.network_arrival-arrival.ensures
    ∙ arrival-as c.is_ordered-ordered.result (is_ordered c.args.routes.now c.args.network) (old.cycle + c.args.latency) c.path_to.result (path_to c.args.routes.now me c.args.receiver) c.next_jitter-jitter.result (jitter_at actor mail.drawn) last
    c.is_ordered-ordered.ensures c.path_to.ensures (c.next_jitter-jitter.ensures.value ∙ ap (jitter_at actor) (ap (λ (k : SendCounts). k.drawn) c.requires.changes.1.counts)) in
    let wanted : Delivery Message = copy_at me mail.sent c.args.receiver to at c.args.fields in
    let same : kept ≡ wanted =
    copy-as me old.counts.sent mail.sent c.args.receiver c.unwrap_or-buffer.result to arrival at c.args.fields sent
    (c.unwrap_or-buffer.ensures ∙ ap (λ (o : Option ℕ). unwrap_or o 0) c.receiving_buffer.ensures) arrives in
    let words : drawn ≡ has_jitter actor = c.is_some-drawn.ensures ∙ are-words actor old.counts.drawn c.args.words.now c.requires.words in
    let final : told_by c.keep_act.new.self ≡ told_with_act (NetworkLast c.args.network c.args.receiver arrival) (told_with_copy me c.args.routes.now drawn kept old) =
    c.keep_act.ensures.after ∙ ap (told_with_act (NetworkLast c.args.network c.args.receiver arrival)) c.keep_copy.ensures.after in
    ap (changed_view first) final
    ∙ (view-ordered first me c.args.network c.args.routes.now old drawn kept
    ∙ one-as first me c.args.network c.args.routes.now old drawn (has_jitter actor) true (is_ordered c.args.routes.now c.args.network) kept wanted words (sym c.if-ordered.true ∙ c.is_ordered-ordered.ensures) same)

pub returns-then-ordered-clause-changes : goal.returns-then-ordered-clause-changes
returns-then-ordered-clause-changes c =
    let store = c.args.store.now in
    let first = mail_of store in
    let old = told_by c.args.changes.now in
    let mail = changed_mail first old in
    let me = c.args.me in
    let drawn = c.is_some-drawn.result in
    let arrival = c.network_arrival-arrival.result in
    let kept : Delivery Message = copy_at me old.counts.sent c.args.receiver c.unwrap_or-buffer.result arrival c.args.fields in
    let sent : old.counts.sent ≡ mail.sent = ap (λ (k : SendCounts). k.sent) c.requires.changes.1.counts in
    let number : kept.message.number ≡ record { sender = me; count = mail.sent } = λ i. record { sender = me; count = sent i } in
    let last = last_at (lasts_on mail.network_last c.args.network) c.args.receiver in
    let due = old.cycle + c.args.latency + c.path_to.result + c.next_jitter-jitter.result in
    let ahead : old.cycle < due = omega (arith, c.requires.latency.0) in
    let later : old.cycle < arrival = later-than old.cycle due last arrival c.is_ordered-ordered.result c.network_arrival-arrival.ensures ahead in
    let final : told_by c.keep_act.new.self ≡ told_with_act (NetworkLast c.args.network c.args.receiver arrival) (told_with_copy me c.args.routes.now drawn kept old) =
    c.keep_act.ensures.after ∙ ap (told_with_act (NetworkLast c.args.network c.args.receiver arrival)) c.keep_copy.ensures.after in
    subst (AreOf store) (sym final)
    (are-last store c.args.network c.args.receiver arrival (told_with_copy me c.args.routes.now drawn kept old)
    (are-copied store me c.args.routes.now drawn kept old c.requires.cycle c.requires.may later number c.requires.changes))

pub returns-then-ordered-clause-may : goal.returns-then-ordered-clause-may
returns-then-ordered-clause-may c =
    let store = c.args.store.now in
    let first = mail_of store in
    let old = told_by c.args.changes.now in
    let mail = changed_mail first old in
    let me = c.args.me in
    let drawn = c.is_some-drawn.result in
    let arrival = c.network_arrival-arrival.result in
    let kept : Delivery Message = copy_at me old.counts.sent c.args.receiver c.unwrap_or-buffer.result arrival c.args.fields in
    let sent : old.counts.sent ≡ mail.sent = ap (λ (k : SendCounts). k.sent) c.requires.changes.1.counts in
    let number : kept.message.number ≡ record { sender = me; count = mail.sent } = λ i. record { sender = me; count = sent i } in
    let final : told_by c.keep_act.new.self ≡ told_with_act (NetworkLast c.args.network c.args.receiver arrival) (told_with_copy me c.args.routes.now drawn kept old) =
    c.keep_act.ensures.after ∙ ap (told_with_act (NetworkLast c.args.network c.args.receiver arrival)) c.keep_copy.ensures.after in
    λ more may.
    subst (MaySend me old.cycle more) (sym (ap (changed_mail first) final))
    (may-last first me c.args.network c.args.receiver arrival (told_with_copy me c.args.routes.now drawn kept old) more (may-copied first me c.args.routes.now drawn kept old more number may))

pub returns-then-ordered-clause-space : goal.returns-then-ordered-clause-space
returns-then-ordered-clause-space c = λ more space.
    c.keep_act.ensures.room (4 * more) more
    (c.keep_copy.ensures.room (4 * more + 1) more (space-as c.args.changes.now (4 * more + 1 + 3) (4 * (more + 1)) (more + 1) (omega arith) space))

pub returns-else-ordered-clause-after : goal.returns-else-ordered-clause-after
returns-else-ordered-clause-after c =
    let store = c.args.store.now in
    let first = mail_of store in
    let old = told_by c.args.changes.now in
    let mail = changed_mail first old in
    let me = c.args.me in
    let drawn = c.is_some-drawn.result in
    let arrival = c.network_arrival-arrival.result in
    let kept : Delivery Message = copy_at me old.counts.sent c.args.receiver c.unwrap_or-buffer.result arrival c.args.fields in
    let sent : old.counts.sent ≡ mail.sent = ap (λ (k : SendCounts). k.sent) c.requires.changes.1.counts in
    let actor : Actor = actor_of me c.args.seed c.args.routes.now in
    let to = unwrap_or (receiving_buffer c.args.routes.now c.args.receiver c.args.network) 0 in
    let at = network_arrival actor mail c.args.network c.args.latency old.cycle c.args.receiver in
    let last = last_at (lasts_on mail.network_last c.args.network) c.args.receiver in
    let arrives : arrival ≡ at =
    c.network_arrival-arrival.ensures
    ∙ arrival-as c.is_ordered-ordered.result (is_ordered c.args.routes.now c.args.network) (old.cycle + c.args.latency) c.path_to.result (path_to c.args.routes.now me c.args.receiver) c.next_jitter-jitter.result (jitter_at actor mail.drawn) last
    c.is_ordered-ordered.ensures c.path_to.ensures (c.next_jitter-jitter.ensures.value ∙ ap (jitter_at actor) (ap (λ (k : SendCounts). k.drawn) c.requires.changes.1.counts)) in
    let wanted : Delivery Message = copy_at me mail.sent c.args.receiver to at c.args.fields in
    let same : kept ≡ wanted =
    copy-as me old.counts.sent mail.sent c.args.receiver c.unwrap_or-buffer.result to arrival at c.args.fields sent
    (c.unwrap_or-buffer.ensures ∙ ap (λ (o : Option ℕ). unwrap_or o 0) c.receiving_buffer.ensures) arrives in
    let words : drawn ≡ has_jitter actor = c.is_some-drawn.ensures ∙ are-words actor old.counts.drawn c.args.words.now c.requires.words in
    ap (changed_view first) c.keep_copy.ensures.after
    ∙ (view-unordered first me c.args.network c.args.routes.now old drawn kept
    ∙ one-as first me c.args.network c.args.routes.now old drawn (has_jitter actor) false (is_ordered c.args.routes.now c.args.network) kept wanted words (sym c.if-ordered.false ∙ c.is_ordered-ordered.ensures) same)

pub returns-else-ordered-clause-changes : goal.returns-else-ordered-clause-changes
returns-else-ordered-clause-changes c =
    let store = c.args.store.now in
    let first = mail_of store in
    let old = told_by c.args.changes.now in
    let mail = changed_mail first old in
    let me = c.args.me in
    let drawn = c.is_some-drawn.result in
    let arrival = c.network_arrival-arrival.result in
    let kept : Delivery Message = copy_at me old.counts.sent c.args.receiver c.unwrap_or-buffer.result arrival c.args.fields in
    let sent : old.counts.sent ≡ mail.sent = ap (λ (k : SendCounts). k.sent) c.requires.changes.1.counts in
    let number : kept.message.number ≡ record { sender = me; count = mail.sent } = λ i. record { sender = me; count = sent i } in
    let last = last_at (lasts_on mail.network_last c.args.network) c.args.receiver in
    let due = old.cycle + c.args.latency + c.path_to.result + c.next_jitter-jitter.result in
    let ahead : old.cycle < due = omega (arith, c.requires.latency.0) in
    let later : old.cycle < arrival = later-than old.cycle due last arrival c.is_ordered-ordered.result c.network_arrival-arrival.ensures ahead in
    subst (AreOf store) (sym c.keep_copy.ensures.after)
    (are-copied store me c.args.routes.now drawn kept old c.requires.cycle c.requires.may later number c.requires.changes)

pub returns-else-ordered-clause-may : goal.returns-else-ordered-clause-may
returns-else-ordered-clause-may c =
    let store = c.args.store.now in
    let first = mail_of store in
    let old = told_by c.args.changes.now in
    let mail = changed_mail first old in
    let me = c.args.me in
    let drawn = c.is_some-drawn.result in
    let arrival = c.network_arrival-arrival.result in
    let kept : Delivery Message = copy_at me old.counts.sent c.args.receiver c.unwrap_or-buffer.result arrival c.args.fields in
    let sent : old.counts.sent ≡ mail.sent = ap (λ (k : SendCounts). k.sent) c.requires.changes.1.counts in
    let number : kept.message.number ≡ record { sender = me; count = mail.sent } = λ i. record { sender = me; count = sent i } in
    λ more may.
    subst (MaySend me old.cycle more) (sym (ap (changed_mail first) c.keep_copy.ensures.after)) (may-copied first me c.args.routes.now drawn kept old more number may)
