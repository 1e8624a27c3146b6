use Rattle.std.proofs.Common.{◌+◌, [], ◌∷◌, ap, drop, false, true, sym, ◌∙◌}
use Rattle.std.proofs.lemmas.List.{drop_more}
use Rattle.trace_print.specs.Prelude.{instr_line}
use Rattle.trace_print.proofs.LinesFrom.{lines_cut, lines_next, no_lines}
use Rattle.trace_print.proofs.Listing.{one_line}
use Rattle.trace_print.proofs.code.write_instrs.Goals as goal

pub loop-at-preserved : goal.loop-at-preserved
loop-at-preserved g c =
    let l = c.loop-at in
    let xs = c.args.instructions.now in
    let i = c.index-instructions-at.result in
    λ whole after rest. l.invariant whole after
    (lines_next g.S.Sink.writes (λ at i. instr_line at i ∷ []) xs l.at i l.sink c.write_instr.new.sink after whole
    (drop_more xs l.at i c.loop-at-test.true ∙ ap (λ x. x ∷ drop (l.at + 1) xs) (sym c.index-instructions-at.is))
    (one_line g.S.Sink.writes l.sink c.write_instr.new.sink (instr_line l.at i) true c.if-not-write_instr.ensures) rest)

pub returns-then-not-write_instr : goal.returns-then-not-write_instr
returns-then-not-write_instr g c =
    let l = c.loop-at in
    let xs = c.args.instructions.now in
    let i = c.index-instructions-at.result in
    l.invariant _ _
    (lines_cut g.S.Sink.writes (λ at i. instr_line at i ∷ []) xs l.at i l.sink c.write_instr.new.sink
    (drop_more xs l.at i c.loop-at-test.true ∙ ap (λ x. x ∷ drop (l.at + 1) xs) (sym c.index-instructions-at.is))
    (one_line g.S.Sink.writes l.sink c.write_instr.new.sink (instr_line l.at i) false c.if-not-write_instr.ensures))

pub returns : goal.returns
returns g c =
    let l = c.loop-at in l.invariant _ _ (no_lines g.S.Sink.writes (λ at i. instr_line at i ∷ []) c.args.instructions.now l.at l.sink c.loop-at-test.false)
