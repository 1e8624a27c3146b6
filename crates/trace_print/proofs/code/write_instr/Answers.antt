use Rattle.std.proofs.Common.{ℕ, List, [], ◌∷◌, ◌++◌, codes, decimal, false, ap, ◌∙◌}
use Rattle.trace_print.specs.Prelude.{instr_line, line_of, operand_words, spaced}
use Rattle.trace_print.proofs.Adding.{line_not_made, same_line}
use Rattle.trace_print.proofs.LineParts.{line_in_parts}
use Rattle.trace_print.proofs.code.write_instr.Goals as goal

pub returns-then-not-begin_line : goal.returns-then-not-begin_line
returns-then-not-begin_line g c =
    let name = c.instr_name.result.now in
    let words : List (List ℕ) = decimal c.args.at ∷ name ∷ [] in
    let last = operand_words c.args.i.now in
    let tail = spaced last ++ 10 ∷ [] in
    let begun = codes " " ++ spaced words in
    same_line g.S.Sink.writes c.args.sink.now c.begin_line.new.sink false (begun ++ tail) (instr_line c.args.at c.args.i.now)
    (line_in_parts (codes " ") words last ∙ ap (λ (n : List ℕ). line_of (codes " " ∷ decimal c.args.at ∷ n ∷ last)) c.instr_name.ensures)
    (line_not_made g.S.Sink.writes c.args.sink.now c.begin_line.new.sink c.new-line.result.items c.begin_line.new.line.items begun tail c.new-line.ensures c.if-not-begin_line.ensures)
