use Rattle.std.specs.Option.{option_copied}
use Rattle.ctl_mail.specs.Prelude.{IsOut, told_by}
use Rattle.ctl_mail.proofs.Fronts.{Reached, steps_from}
use Rattle.ctl_mail.proofs.reads.first_left.Given as goal

abbrev pub invariant-loop-next : goal.invariant-loop-next
invariant-loop-next l = Reached l.queue.kept l.changes.cycle (IsOut (told_by l.changes)) (option_copied l.next)

abbrev pub decreases-loop-next : goal.decreases-loop-next
decreases-loop-next l = steps_from l.queue.kept (option_copied l.next)
