use Rattle.std.proofs.Common.{◌<◌, length, arith}
use Rattle.slicc_ast.specs.declared.tree.token.Sign.TheVariants.{CloseParenthesis, OpenParenthesis}
use Rattle.slicc_reading.specs.Prelude.{bracketed, bracketed_parts}
use Rattle.slicc_reading.proofs.GoingOn.{weaker}
use Rattle.slicc_reading.proofs.Parts.{◌then◌, as_node, at_first, behind}
use Rattle.slicc_expr.proofs.called_statements.print_statement.Goals as goal

pub returns-in-Ok-ended-clause-read : goal.returns-in-Ok-ended-clause-read
returns-in-Ok-ended-clause-read c =
    as_node c.span-span.result c.span-span.ensures
    (c.in-Ok.ensures.read then c.in-Ok-ended.ensures.read (bracketed OpenParenthesis CloseParenthesis) (bracketed_parts OpenParenthesis CloseParenthesis) _ c.bracketed.ensures.read)

pub returns-in-Ok-ended-clause-shorter : goal.returns-in-Ok-ended-clause-shorter
returns-in-Ok-ended-clause-shorter c =
    let less : length c.in-Ok-ended.left.now < length c.in-Ok.behind.now =
    c.in-Ok-ended.ensures.shorter _ (weaker _ c.bracketed.result c.bracketed.ensures.shorter) in
    let before : length c.in-Ok.behind.now < length c.args.tokens.now = c.in-Ok.ensures.shorter in
    omega arith

pub returns-in-Err-ended-clause-read : goal.returns-in-Err-ended-clause-read
returns-in-Err-ended-clause-read c =
    behind c.in-Ok.ensures.read (c.in-Err-ended.ensures.read (bracketed OpenParenthesis CloseParenthesis) (bracketed_parts OpenParenthesis CloseParenthesis) _ c.bracketed.ensures.read)

pub returns-in-Err-clause-read : goal.returns-in-Err-clause-read
returns-in-Err-clause-read c =
    at_first _ c.in-Err.ensures.read
