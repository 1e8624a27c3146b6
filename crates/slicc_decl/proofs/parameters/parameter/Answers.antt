use Rattle.std.proofs.Common.{◌≤◌, ◌<◌, length, arith, refl, sym}
use Rattle.slicc_ast.specs.Form.Form.{literal, parameter}
use Rattle.slicc_ast.specs.Parts.{name, pairs}
use Rattle.slicc_ast.specs.Prelude.{◌▸◌, assign, of, optional, semicolon}
use Rattle.slicc_reading.proofs.Parts.{◌then◌, as_node, at_first, at_no_alternative, behind, in_alternative, of_alternative}
use Rattle.slicc_decl.proofs.parameters.parameter.Goals as goal

pub returns-then-not-is_name-clause-read : goal.returns-then-not-is_name-clause-read
returns-then-not-is_name-clause-read c = at_no_alternative parameter (sym c.if-not-is_name.ensures) c.refuse.ensures

pub returns-in-Ok-parameter_end-clause-read : goal.returns-in-Ok-parameter_end-clause-read
returns-in-Ok-parameter_end-clause-read c =
    of_alternative parameter 0 refl (sym c.if-not-is_name.ensures)
    (as_node c.span-span.result c.span-span.ensures (c.in-Ok.ensures.read then c.in-Ok-parameter_end.ensures))

pub returns-in-Ok-parameter_end-clause-shorter : goal.returns-in-Ok-parameter_end-clause-shorter
returns-in-Ok-parameter_end-clause-shorter c =
    let some : length c.in-Ok.behind.now < length c.args.tokens.now = c.in-Ok.ensures.shorter in
    let few : length c.in-Ok-parameter_end.left.now ≤ length c.in-Ok.behind.now = c.in-Ok-parameter_end.ensures.within in
    omega arith

pub returns-in-Err-parameter_end-clause-read : goal.returns-in-Err-parameter_end-clause-read
returns-in-Err-parameter_end-clause-read c = in_alternative parameter 0 refl (sym c.if-not-is_name.ensures) (behind c.in-Ok.ensures.read c.in-Err-parameter_end.ensures)

pub returns-in-Err-clause-read : goal.returns-in-Err-clause-read
returns-in-Err-clause-read c =
    in_alternative parameter 0 refl (sym c.if-not-is_name.ensures)
    (at_first (name ▸ optional (assign ▸ of literal) ▸ pairs ▸ semicolon) c.in-Err.ensures.read)
