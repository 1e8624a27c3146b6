use Rattle.std.proofs.Common.{◌≡◌, drop}
use Rattle.std.specs.List.{find}
use Rattle.ruby_value.specs.Prelude.{set_of}
use Rattle.ctl_tables.specs.Prelude.{numbers_of, stays_in}
use Rattle.ctl_tables.proofs.recency.first_unmoved.Given as goal

abbrev pub invariant-loop-i : goal.invariant-loop-i
invariant-loop-i l = find (stays_in l.table l.log) (drop l.i (numbers_of (set_of l.cache l.line))) ≡ find (stays_in l.table l.log) (numbers_of (set_of l.cache l.line))
