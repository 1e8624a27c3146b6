use Rattle.std.proofs.Common.{Bool, drop, map}
use Rattle.std.specs.Option.{option_copied}
use Rattle.trace_print.specs.Prelude.{AreLinesPut, row_line}
use Rattle.trace_print.proofs.rows.write_each.Given as goal

abbrev pub invariant-loop-row : goal.invariant-loop-row
invariant-loop-row g l =
    (whole : Bool) (after : _) → AreLinesPut g.S.Sink.writes l.sink (map (row_line l.symbols (option_copied l.m)) (drop l.row-index l.rows)) whole after
    → AreLinesPut g.S.Sink.writes l.initial.sink (map (row_line l.symbols (option_copied l.m)) l.rows) whole after
