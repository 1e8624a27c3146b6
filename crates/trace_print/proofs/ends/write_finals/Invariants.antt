use Rattle.std.proofs.Common.{Bool, drop, map}
use Rattle.trace_print.specs.Prelude.{final_line, AreLinesPut}
use Rattle.trace_print.proofs.ends.write_finals.Given as goal

abbrev pub invariant-loop-last : goal.invariant-loop-last
invariant-loop-last g l =
    (whole : Bool) (after : _) → AreLinesPut g.S.Sink.writes l.sink (map (final_line l.symbols l.names) (drop l.last-index l.finals)) whole after
    → AreLinesPut g.S.Sink.writes l.initial.sink (map (final_line l.symbols l.names) l.finals) whole after
