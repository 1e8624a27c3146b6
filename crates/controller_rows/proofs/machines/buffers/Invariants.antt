use Rattle.std.proofs.Common.{◌≡◌, map, take}
use Rattle.controller_rows.specs.Prelude.{buffer_setup}
use Rattle.controller_rows.proofs.machines.buffers.Given as goal

abbrev pub invariant-loop-row : goal.invariant-loop-row
invariant-loop-row l = l.buffers.items ≡ map buffer_setup (take l.row-index l.rows)
