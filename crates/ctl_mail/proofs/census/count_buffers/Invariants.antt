use Rattle.std.proofs.Common.{◌≡◌, List, All, count_by, not, sum_by, take}
use Rattle.ruby_value.specs.declared.message.Message.{Message}
use Rattle.ruby_value.specs.Prelude.{Roomy}
use Rattle.msg_buffer.specs.Prelude.{IsQueue}
use Rattle.ctl_mail.specs.Prelude.{capped}
use Rattle.ctl_mail.proofs.census.count_buffers.Given as goal

abbrev pub invariant-loop-queue : goal.invariant-loop-queue
invariant-loop-queue l = record {
  order : All (λ (q : Roomy (List Message)). IsQueue q.kept) (take l.queue-index l.buffers);
  queued : l.queued ≡ capped (sum_by (λ (q : Roomy (List Message)). count_by (λ (m : Message). not m.recycled) q.kept) (take l.queue-index l.buffers));
  recycled : l.recycled ≡ capped (sum_by (λ (q : Roomy (List Message)). count_by (λ (m : Message). m.recycled) q.kept) (take l.queue-index l.buffers));
}
