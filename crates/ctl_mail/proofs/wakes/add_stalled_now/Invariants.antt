use Rattle.std.proofs.Common.{take}
use Rattle.ctl_mail.specs.Prelude.{Adds, IsWokenAmong, told_by}
use Rattle.ctl_mail.proofs.wakes.add_stalled_now.Given as goal

abbrev pub invariant-loop-number : goal.invariant-loop-number
invariant-loop-number l = Adds l.initial.numbers.items (IsWokenAmong (take l.number-index l.changes.stalled.items) (told_by l.changes) l.waking) l.numbers.items
