use Rattle.std.proofs.Common.{◌≡◌, ◌<◌, ◌+◌, ◌-◌, ◌^◌, ◌∙◌, ℕ, List, All, count_by, not, sum_by, take, get_or, length, sym, subst, ap, arith}
use Rattle.std.proofs.lemmas.List.{take_all}
use Rattle.std.proofs.lemmas.List.Elements.{All-more}
use Rattle.std.proofs.lemmas.List.Sums.{sum_by_more}
use Rattle.ruby_value.specs.declared.message.Message.{Message}
use Rattle.ruby_value.specs.Prelude.{Roomy}
use Rattle.msg_buffer.specs.Prelude.{IsQueue}
use Rattle.ctl_mail.specs.Prelude.{Queues}
use Rattle.ctl_mail.proofs.Counts.{stopped-more}
use Rattle.ctl_mail.proofs.census.count_buffers.Goals as goal

pub loop-queue-preserved : goal.loop-queue-preserved
loop-queue-preserved c =
    let queues : Queues = c.args.buffers.now in
    let i = c.loop-queue.queue-index in
    let q : Roomy (List Message) = c.queue-item.result in
    let within : i < length queues = omega arith in
    let P : Roomy (List Message) → Type 0 = λ r. IsQueue r.kept in
    let plain : Roomy (List Message) → ℕ = λ r. count_by (λ (m : Message). not m.recycled) r.kept in
    let again : Roomy (List Message) → ℕ = λ r. count_by (λ (m : Message). m.recycled) r.kept in
    let counts = c.count_buffer-counts in
    let plain_more : plain (get_or queues i q) ≡ counts.result.0 = ap plain (sym c.queue-item.is) ∙ sym counts.ensures.queued in
    let again_more : again (get_or queues i q) ≡ counts.result.1 = ap again (sym c.queue-item.is) ∙ sym counts.ensures.recycled in
    record {
      order = All-more P queues i q within c.loop-queue.invariant.order (subst P c.queue-item.is counts.ensures.order);
      queued =
          stopped-more (2 ^ 64 - 1) (sum_by plain (take i queues)) counts.result.0 c.loop-queue.queued (sum_by plain (take (i + 1) queues)) c.saturating_add-queued.result
          c.loop-queue.invariant.queued c.saturating_add-queued.ensures (sum_by_more plain queues i q within ∙ ap (λ n. sum_by plain (take i queues) + n) plain_more);
      recycled =
          stopped-more (2 ^ 64 - 1) (sum_by again (take i queues)) counts.result.1 c.loop-queue.recycled (sum_by again (take (i + 1) queues)) c.saturating_add-recycled.result
          c.loop-queue.invariant.recycled c.saturating_add-recycled.ensures (sum_by_more again queues i q within ∙ ap (λ n. sum_by again (take i queues) + n) again_more);
    }

pub returns-clause-order : goal.returns-clause-order
returns-clause-order c =
    let queues : Queues = c.args.buffers.now in
    subst (All (λ (r : Roomy (List Message)). IsQueue r.kept)) (take_all c.loop-queue.queue-index queues (omega arith)) c.loop-queue.invariant.order
