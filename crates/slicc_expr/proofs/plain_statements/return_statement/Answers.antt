use Rattle.std.proofs.Common.{◌<◌, length, arith}
use Rattle.slicc_ast.specs.Prelude.{optional_expr, Form, of, optional}
use Rattle.slicc_reading.proofs.GoingOn.{at_most}
use Rattle.slicc_reading.proofs.Parts.{◌then◌, as_node, at_first, behind}
use Rattle.slicc_expr.proofs.plain_statements.return_statement.Goals as goal

pub returns-in-Ok-ended-clause-read : goal.returns-in-Ok-ended-clause-read
returns-in-Ok-ended-clause-read c =
    as_node c.span.result c.span.ensures
    (c.in-Ok.ensures.read then c.in-Ok-ended.ensures.read (optional (of Form.expression)) optional_expr _ c.optional_value.ensures)

pub returns-in-Ok-ended-clause-shorter : goal.returns-in-Ok-ended-clause-shorter
returns-in-Ok-ended-clause-shorter c =
    let less : length c.in-Ok-ended.left.now < length c.in-Ok.behind.now =
    c.in-Ok-ended.ensures.shorter _ (at_most c.args.room (optional (of Form.expression)) c.in-Ok.behind.now optional_expr c.optional_value.result c.optional_value.ensures) in
    let before : length c.in-Ok.behind.now < length c.args.tokens.now = c.in-Ok.ensures.shorter in
    omega arith

pub returns-in-Err-ended-clause-read : goal.returns-in-Err-ended-clause-read
returns-in-Err-ended-clause-read c =
    behind c.in-Ok.ensures.read (c.in-Err-ended.ensures.read (optional (of Form.expression)) optional_expr _ c.optional_value.ensures)

pub returns-in-Err-clause-read : goal.returns-in-Err-clause-read
returns-in-Err-clause-read c =
    at_first _ c.in-Err.ensures.read
