use Rattle.std.proofs.Common.{◌≡◌, map, take}
use Rattle.controller_rows.proofs.paths.receiving_buffers.Given as goal

abbrev pub invariant-loop-row : goal.invariant-loop-row
invariant-loop-row l = l.all.items ≡ map (λ row. row.now) (take l.row-index l.rows)
