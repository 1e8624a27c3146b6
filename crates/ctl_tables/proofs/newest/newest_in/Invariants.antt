use Rattle.std.proofs.Common.{◌≡◌, reverse, take}
use Rattle.std.specs.List.{find}
use Rattle.ctl_tables.specs.Prelude.{tells}
use Rattle.ctl_tables.proofs.newest.newest_in.Given as goal

abbrev pub invariant-loop-i : goal.invariant-loop-i
invariant-loop-i l = find (tells l.table l.line l.field) (reverse (take l.i l.log)) ≡ find (tells l.table l.line l.field) (reverse l.log)
