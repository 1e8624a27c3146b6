use Rattle.std.proofs.Common.{Bool, drop}
use Rattle.slicc_plan.specs.Prelude.{symbols_of, numbered_from}
use Rattle.trace_print.specs.Prelude.{AreLinesPut, row_lines}
use Rattle.ruby_answers.proofs.tables.write_tables.Given as goal

abbrev pub invariant-loop-machine : goal.invariant-loop-machine
invariant-loop-machine g l =
    (whole : Bool) (after : _) → AreLinesPut g.S.Sink.writes l.sink (numbered_from (row_lines (symbols_of l.plan)) l.machine (drop l.machine l.tables)) whole after
    → AreLinesPut g.S.Sink.writes l.initial.sink (numbered_from (row_lines (symbols_of l.plan)) 0 l.tables) whole after
