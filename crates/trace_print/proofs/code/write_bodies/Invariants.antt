use Rattle.std.proofs.Common.{Bool, drop}
use Rattle.trace_print.specs.Prelude.{AreLinesPut, body_lines, lines_from}
use Rattle.trace_print.proofs.code.write_bodies.Given as goal

abbrev pub invariant-loop-body : goal.invariant-loop-body
invariant-loop-body g l =
    (whole : Bool) (after : _) → AreLinesPut g.S.Sink.writes l.sink (lines_from body_lines l.body (drop l.body l.bodies)) whole after
    → AreLinesPut g.S.Sink.writes l.initial.sink (lines_from body_lines 0 l.bodies) whole after
