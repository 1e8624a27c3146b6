use Rattle.std.proofs.Common.{sym}
use Rattle.slicc_ast.specs.Prelude.{done, semicolon}
use Rattle.slicc_reading.proofs.Parts.{◌then◌, as_node_behind, at_first, behind}
use Rattle.slicc_reading.proofs.Choices.{absent, fault_in_present, present}
use Rattle.slicc_ast.specs.declared.tree.token.Sign.TheVariants.{Assign}
use Rattle.slicc_expr.specs.Prelude.{value_after}
use Rattle.slicc_expr.proofs.plain_statements.behind_expression.Goals as goal

pub returns-in-Ok : goal.returns-in-Ok
returns-in-Ok c =
    as_node_behind c.span.result c.span.ensures c.requires (absent (value_after Assign done) (sym c.if-not-is_sign.ensures) then c.in-Ok.ensures.read)

pub returns-in-Err : goal.returns-in-Err
returns-in-Err c =
    behind (absent (value_after Assign done) (sym c.if-not-is_sign.ensures)) c.in-Err.ensures.read

pub returns-in-Ok-sign : goal.returns-in-Ok-sign
returns-in-Ok-sign c =
    as_node_behind c.span-span.result c.span-span.ensures c.requires (present (sym c.if-not-is_sign.ensures) c.in-Ok-value_after.ensures then c.in-Ok-sign.ensures.read)

pub returns-in-Err-sign : goal.returns-in-Err-sign
returns-in-Err-sign c =
    behind (present (sym c.if-not-is_sign.ensures) c.in-Ok-value_after.ensures) c.in-Err-sign.ensures.read

pub returns-in-Err-value_after : goal.returns-in-Err-value_after
returns-in-Err-value_after c =
    at_first semicolon (fault_in_present (sym c.if-not-is_sign.ensures) c.in-Err-value_after.ensures)
