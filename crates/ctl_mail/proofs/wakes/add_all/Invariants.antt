use Rattle.std.proofs.Common.{length}
use Rattle.ctl_mail.specs.declared.moves.Waking.TheVariants.{All}
use Rattle.ctl_mail.specs.Prelude.{Adds, IsWokenStalled, told_by}
use Rattle.ctl_mail.proofs.Passed.{left_above, passed}
use Rattle.ctl_mail.proofs.wakes.add_all.Given as goal

-- those up to the last one are found
abbrev pub invariant-loop-next : goal.invariant-loop-next
invariant-loop-next l = Adds l.initial.numbers.items (IsWokenStalled (passed l.stalls.kept l.last) (told_by l.changes) All) l.numbers.items

abbrev pub decreases-loop-next : goal.decreases-loop-next
decreases-loop-next l = length (left_above l.stalls.kept l.last)
