use Rattle.std.proofs.Common.{arith}
use Rattle.ruby_value.specs.declared.message.Message.{Message}
use Rattle.ctl_mail.proofs.Counts.{count-both}
use Rattle.ctl_mail.proofs.census.count_buffer.Goals as goal

pub returns-clause-queued : goal.returns-clause-queued
returns-clause-queued c = omega (arith, count-both (λ (m : Message). m.recycled) c.args.queue.now.kept)
