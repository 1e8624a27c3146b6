use Rattle.std.proofs.Common.{◌≡◌, ◌≤◌, ◌+◌, ◌^◌, Some, reverse, take}
use Rattle.ctl_tables.specs.Prelude.{table_of, frame_of, lines_after, lines_beside}
use Rattle.ctl_tables.proofs.stored.StoredTable.lines_after.Given as goal

abbrev pub invariant-loop-change : goal.invariant-loop-change
invariant-loop-change l = record {
  so_far : l.lines ≡ lines_after (Some (frame_of (table_of l.self))) l.table l.line (lines_beside (table_of l.self) l.line) (reverse (take l.change-index l.log));
  small : l.lines ≤ 2 ^ 32 + l.change-index;
}
