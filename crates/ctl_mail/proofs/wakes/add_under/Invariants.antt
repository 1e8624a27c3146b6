use Rattle.std.proofs.Common.{take}
use Rattle.ctl_mail.specs.Prelude.{Adds, told_by}
use Rattle.ctl_mail.proofs.Founds.{IsWokenOf}
use Rattle.ctl_mail.proofs.wakes.add_under.Given as goal

abbrev pub invariant-loop-number : goal.invariant-loop-number
invariant-loop-number l = Adds l.initial.numbers.items (IsWokenOf (told_by l.changes) l.line (take l.number-index l.under)) l.numbers.items
