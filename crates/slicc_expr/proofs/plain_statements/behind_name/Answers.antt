use Rattle.std.proofs.Common.{refl, sym}
use Rattle.slicc_ast.specs.Prelude.{Form, names_of}
use Rattle.slicc_lex.specs.Prelude.{symbols}
use Rattle.slicc_reading.proofs.Parts.{at_first, at_no_alternative, behind_read, in_alternative, match_map, of_alternative, read_behind}
use Rattle.slicc_reading.proofs.FirstTokens.{neither_kind}
use Rattle.slicc_expr.specs.Prelude.{expression_end, signs_behind_name}
use Rattle.slicc_expr.proofs.plain_statements.behind_name.Goals as goal

pub returns-then-is_name : goal.returns-then-is_name
returns-then-is_name c =
    match_map c.declaration.result c.declaration.ensures
    (λ read is. of_alternative Form.statement_end 0 refl (sym c.if-is_name.ensures) is)
    (λ fault is. in_alternative Form.statement_end 0 refl (sym c.if-is_name.ensures) is)

pub returns-then-not-goes_on_behind_name : goal.returns-then-not-goes_on_behind_name
returns-then-not-goes_on_behind_name c =
    at_no_alternative Form.statement_end
    (neither_kind names_of signs_behind_name (symbols c.args.tokens.now) (sym c.if-is_name.ensures) (sym c.if-not-goes_on_behind_name.ensures)) c.refuse.ensures

pub returns-in-Ok : goal.returns-in-Ok
returns-in-Ok c =
    match_map c.behind_expression.result c.behind_expression.ensures
    (λ read is. of_alternative Form.statement_end 1 refl (sym c.if-not-goes_on_behind_name.ensures) (read_behind c.in-Ok.ensures is))
    (λ fault is. in_alternative Form.statement_end 1 refl (sym c.if-not-goes_on_behind_name.ensures) (behind_read c.in-Ok.ensures is))

pub returns-in-Err : goal.returns-in-Err
returns-in-Err c =
    in_alternative Form.statement_end 1 refl (sym c.if-not-goes_on_behind_name.ensures) (at_first expression_end c.in-Err.ensures)
