use Rattle.std.proofs.Common.{◌≡◌, take}
use Rattle.pair_table.specs.Prelude.{rows_at}
use Rattle.pair_table.proofs.rows.table_rows.Given as goal

abbrev pub invariant-loop-place : goal.invariant-loop-place
invariant-loop-place l = l.rows ≡ rows_at l.ws l.events 0 (take l.place l.firsts)
