use Rattle.std.proofs.Common.{Bool, [], ◌∷◌, drop}
use Rattle.trace_print.specs.Prelude.{AreLinesPut, instr_line, lines_from}
use Rattle.trace_print.proofs.code.write_instrs.Given as goal

abbrev pub invariant-loop-at : goal.invariant-loop-at
invariant-loop-at g l =
    (whole : Bool) (after : _) → AreLinesPut g.S.Sink.writes l.sink (lines_from (λ at i. instr_line at i ∷ []) l.at (drop l.at l.instructions)) whole after
    → AreLinesPut g.S.Sink.writes l.initial.sink (lines_from (λ at i. instr_line at i ∷ []) 0 l.instructions) whole after
