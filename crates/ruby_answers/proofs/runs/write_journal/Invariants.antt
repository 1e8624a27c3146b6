use Rattle.std.proofs.Common.{Bool, drop, flat_map}
use Rattle.slicc_plan.specs.Prelude.{symbols_of}
use Rattle.trace_print.specs.Prelude.{entry_lines, AreLinesPut}
use Rattle.ruby_answers.proofs.runs.write_journal.Given as goal

abbrev pub invariant-loop-place : goal.invariant-loop-place
invariant-loop-place g l =
    (whole : Bool) (after : _) → AreLinesPut g.S.Sink.writes l.sink (flat_map (entry_lines (symbols_of l.plan) l.names) (drop l.place l.journal)) whole after
    → AreLinesPut g.S.Sink.writes l.initial.sink (flat_map (entry_lines (symbols_of l.plan) l.names) l.journal) whole after
