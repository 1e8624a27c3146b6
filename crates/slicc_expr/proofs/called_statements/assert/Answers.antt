use Rattle.std.proofs.Common.{◌<◌, length, arith}
use Rattle.slicc_ast.specs.Prelude.{expression, of, semicolon}
use Rattle.slicc_expr.proofs.Loops.{expr_parts}
use Rattle.slicc_reading.proofs.GoingOn.{weaker}
use Rattle.slicc_reading.proofs.Parts.{as_node, as_part, at_first, match_map}
use Rattle.slicc_expr.proofs.called_statements.assert.Goals as goal

pub returns-in-Ok-ended_call-clause-read : goal.returns-in-Ok-ended_call-clause-read
returns-in-Ok-ended_call-clause-read c =
    as_node c.span.result c.span.ensures (c.in-Ok-ended_call.ensures.read _ (of expression) expr_parts _ _ c.in-Ok.ensures.called
    (match_map c.expression.result c.expression.ensures.read (λ read is. as_part is) (λ fault is. is)))

pub returns-in-Ok-ended_call-clause-shorter : goal.returns-in-Ok-ended_call-clause-shorter
returns-in-Ok-ended_call-clause-shorter c =
    let less : length c.in-Ok-ended_call.left.now < length c.in-Ok.inside.now =
    c.in-Ok-ended_call.ensures.shorter _ (weaker _ c.expression.result c.expression.ensures.shorter) in
    let before : length c.in-Ok.inside.now < length c.args.tokens.now = c.in-Ok.ensures.shorter in
    omega arith

pub returns-in-Err-ended_call-clause-read : goal.returns-in-Err-ended_call-clause-read
returns-in-Err-ended_call-clause-read c =
    c.in-Err-ended_call.ensures.read _ (of expression) expr_parts _ _ c.in-Ok.ensures.called
    (match_map c.expression.result c.expression.ensures.read (λ read is. as_part is) (λ fault is. is))

pub returns-in-Err-clause-read : goal.returns-in-Err-clause-read
returns-in-Err-clause-read c =
    at_first semicolon (c.in-Err.ensures.refused _)
