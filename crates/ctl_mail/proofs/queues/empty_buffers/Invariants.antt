use Rattle.std.proofs.Common.{◌≡◌, List, [], All, length}
use Rattle.ruby_value.specs.declared.message.Message.{Message}
use Rattle.ruby_value.specs.Prelude.{Roomy}
use Rattle.ctl_mail.proofs.queues.empty_buffers.Given as goal

abbrev pub invariant-loop : goal.invariant-loop
invariant-loop l = (length l.buffers.items ≡ l.counter) × All (λ (q : Roomy (List Message)). q.kept ≡ []) l.buffers.items
