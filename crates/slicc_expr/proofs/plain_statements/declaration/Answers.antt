use Rattle.slicc_ast.specs.declared.tree.token.Sign.TheVariants.{Assign}
use Rattle.slicc_reading.proofs.Parts.{as_node_behind}
use Rattle.slicc_expr.specs.Prelude.{named_value, named_value_parts}
use Rattle.slicc_expr.proofs.plain_statements.declaration.Goals as goal

pub returns-in-Ok : goal.returns-in-Ok
returns-in-Ok c =
    as_node_behind c.span-span.result c.span-span.ensures c.requires
    (c.in-Ok.ensures.read (named_value Assign) (named_value_parts Assign) c.args.tokens.now c.named_value-named.ensures)

pub returns-in-Err : goal.returns-in-Err
returns-in-Err c =
    c.in-Err.ensures.read (named_value Assign) (named_value_parts Assign) _ c.named_value-named.ensures
