use Rattle.std.proofs.Common.{◌-◌, ◌<◌, length, arith}
use Rattle.slicc_ast.specs.declared.tree.token.Sign.TheVariants.{Comma}
use Rattle.slicc_ast.specs.declared.tree.token.Word.TheVariants.{StallAndWait}
use Rattle.slicc_ast.specs.Prelude.{semicolon}
use Rattle.slicc_expr.specs.Prelude.{named_value, named_value_parts}
use Rattle.slicc_reading.proofs.GoingOn.{at_most}
use Rattle.slicc_reading.proofs.Parts.{as_node, at_first}
use Rattle.slicc_expr.proofs.called_statements.stall_and_wait.Goals as goal

pub returns-in-Ok-ended_call-clause-read : goal.returns-in-Ok-ended_call-clause-read
returns-in-Ok-ended_call-clause-read c =
    as_node c.span-span.result c.span-span.ensures
    (c.in-Ok-ended_call.ensures.read StallAndWait (named_value Comma) (named_value_parts Comma) c.args.tokens.now c.in-Ok.inside.now c.in-Ok.ensures.called c.named_value.ensures)

pub returns-in-Ok-ended_call-clause-shorter : goal.returns-in-Ok-ended_call-clause-shorter
returns-in-Ok-ended_call-clause-shorter c =
    let less : length c.in-Ok-ended_call.left.now < length c.in-Ok.inside.now =
    c.in-Ok-ended_call.ensures.shorter _ (at_most (c.args.room - 1) (named_value Comma) c.in-Ok.inside.now (named_value_parts Comma) c.named_value.result c.named_value.ensures) in
    let before : length c.in-Ok.inside.now < length c.args.tokens.now = c.in-Ok.ensures.shorter in
    omega arith

pub returns-in-Err-ended_call-clause-read : goal.returns-in-Err-ended_call-clause-read
returns-in-Err-ended_call-clause-read c =
    c.in-Err-ended_call.ensures.read _ (named_value Comma) (named_value_parts Comma) _ _ c.in-Ok.ensures.called
    c.named_value.ensures

pub returns-in-Err-clause-read : goal.returns-in-Err-clause-read
returns-in-Err-clause-read c =
    at_first semicolon (c.in-Err.ensures.refused _)
