use Rattle.std.proofs.Common.{◌≡◌, map, take}
use Rattle.controller_rows.specs.Prelude.{table_setup}
use Rattle.controller_rows.proofs.machines.tables.Given as goal

abbrev pub invariant-loop-row : goal.invariant-loop-row
invariant-loop-row l = l.tables.items ≡ map table_setup (take l.row-index l.rows)
