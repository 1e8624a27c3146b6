use Rattle.slicc_reading.proofs.Parts.{as_node_behind}
use Rattle.slicc_expr.proofs.expressions.member.Goals as goal

pub returns-in-Ok-clause-read : goal.returns-in-Ok-clause-read
returns-in-Ok-clause-read c =
    as_node_behind c.span-span.result c.span-span.ensures c.requires c.in-Ok.ensures.read
