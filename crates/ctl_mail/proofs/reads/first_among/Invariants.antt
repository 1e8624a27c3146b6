use Rattle.std.proofs.Common.{take}
use Rattle.std.specs.Option.{option_copied}
use Rattle.ctl_mail.specs.Prelude.{IsBackAmong, IsLeast, told_by}
use Rattle.ctl_mail.proofs.reads.first_among.Given as goal

abbrev pub invariant-loop-number : goal.invariant-loop-number
invariant-loop-number l = IsLeast (IsBackAmong (take l.number-index l.numbers) l.stalls.kept (told_by l.changes) l.buffer) (option_copied l.first)
