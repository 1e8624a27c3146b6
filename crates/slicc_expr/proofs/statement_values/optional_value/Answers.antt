use Rattle.std.proofs.Common.{sym}
use Rattle.slicc_ast.specs.Prelude.{done, form, Form}
use Rattle.slicc_reading.proofs.Parts.{as_part}
use Rattle.slicc_reading.proofs.Choices.{absent, fault_in_present, present}
use Rattle.slicc_expr.proofs.statement_values.optional_value.Goals as goal

pub returns-then-not-begins_expression : goal.returns-then-not-begins_expression
returns-then-not-begins_expression c =
    absent (form Form.expression done) (sym c.if-not-begins_expression.ensures)

pub returns-in-Ok : goal.returns-in-Ok
returns-in-Ok c =
    present (sym c.if-not-begins_expression.ensures) (as_part c.in-Ok.ensures.read)

pub returns-in-Err : goal.returns-in-Err
returns-in-Err c =
    fault_in_present (sym c.if-not-begins_expression.ensures) c.in-Err.ensures.read
