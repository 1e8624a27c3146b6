use Rattle.std.proofs.Common.{List, [], ◌∷◌, subst}
use Rattle.action_code.specs.declared.instr.Instr.{Instr}
use Rattle.trace_print.specs.Prelude.{AreLinesPut, body_line, instr_line, line_cut, line_put, lines_from}
use Rattle.trace_print.proofs.code.write_body.Goals as goal

pub returns-then-not-write_line : goal.returns-then-not-write_line
returns-then-not-write_line g c =
    line_cut c.args.sink.now c.write_line.new.sink (body_line c.args.body) (lines_from (λ at i. instr_line at i ∷ []) 0 c.args.c.now.instructions) c.if-not-write_line.ensures

pub returns : goal.returns
returns g c =
    let P : List Instr → Type 0 = λ xs. AreLinesPut g.S.Sink.writes c.write_line.new.sink (lines_from (λ at i. instr_line at i ∷ []) 0 xs) c.write_instrs.result c.write_instrs.new.sink in
    line_put c.args.sink.now c.write_line.new.sink c.write_instrs.new.sink (body_line c.args.body) (lines_from (λ at i. instr_line at i ∷ []) 0 c.args.c.now.instructions) c.write_instrs.result c.if-not-write_line.ensures
    (subst P c.as_slice.ensures c.write_instrs.ensures)
