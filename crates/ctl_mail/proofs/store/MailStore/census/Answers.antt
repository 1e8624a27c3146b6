use Rattle.std.proofs.Common.{◌∙◌, List, All, count_by, not, sum_by, sym, subst, ap}
use Rattle.ruby_value.specs.declared.message.Message.{Message}
use Rattle.ruby_value.specs.Prelude.{Roomy}
use Rattle.msg_buffer.specs.Prelude.{IsQueue}
use Rattle.ctl_mail.specs.Prelude.{capped, Queues}
use Rattle.ctl_mail.proofs.Counts.{queued-count, recycled-count, stalled-count}
use Rattle.ctl_mail.proofs.store.MailStore.census.Goals as goal

pub returns-clause-queued : goal.returns-clause-queued
returns-clause-queued c =
    let store = c.args.self.now in
    let each : All (λ (q : Roomy (List Message)). IsQueue q.kept) store.buffers.items =
    subst (λ (qs : Queues). All (λ (q : Roomy (List Message)). IsQueue q.kept) qs) c.deref.ensures.value c.count_buffers-counts.ensures.order in
    c.count_buffers-counts.ensures.queued
    ∙ (ap (λ (qs : Queues). capped (sum_by (λ (q : Roomy (List Message)). count_by (λ (m : Message). not m.recycled) q.kept) qs)) c.deref.ensures.value
    ∙ ap capped (sym (queued-count store.buffers.items store.stalls.kept c.requires.holds c.len-stalled.ensures.order each)))

pub returns-clause-stalled : goal.returns-clause-stalled
returns-clause-stalled c =
    let store = c.args.self.now in
    let each : All (λ (q : Roomy (List Message)). IsQueue q.kept) store.buffers.items =
    subst (λ (qs : Queues). All (λ (q : Roomy (List Message)). IsQueue q.kept) qs) c.deref.ensures.value c.count_buffers-counts.ensures.order in
    c.len-stalled.ensures.count ∙ sym (stalled-count store.buffers.items store.stalls.kept c.requires.holds c.len-stalled.ensures.order each)

pub returns-clause-recycled : goal.returns-clause-recycled
returns-clause-recycled c =
    let store = c.args.self.now in
    let each : All (λ (q : Roomy (List Message)). IsQueue q.kept) store.buffers.items =
    subst (λ (qs : Queues). All (λ (q : Roomy (List Message)). IsQueue q.kept) qs) c.deref.ensures.value c.count_buffers-counts.ensures.order in
    c.count_buffers-counts.ensures.recycled
    ∙ (ap (λ (qs : Queues). capped (sum_by (λ (q : Roomy (List Message)). count_by (λ (m : Message). m.recycled) q.kept) qs)) c.deref.ensures.value
    ∙ ap capped (sym (recycled-count store.buffers.items store.stalls.kept c.requires.holds c.len-stalled.ensures.order each)))
