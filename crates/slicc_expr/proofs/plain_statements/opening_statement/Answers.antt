use Rattle.slicc_reading.proofs.Parts.{at_first, behind_read, match_map, read_behind}
use Rattle.slicc_expr.specs.Prelude.{expression_end}
use Rattle.slicc_expr.proofs.plain_statements.opening_statement.Goals as goal

pub returns-in-Ok-clause-read : goal.returns-in-Ok-clause-read
returns-in-Ok-clause-read c =
    match_map c.behind_expression.result c.behind_expression.ensures (λ read is. read_behind c.in-Ok.ensures.read is) (λ fault is. behind_read c.in-Ok.ensures.read is)

pub returns-in-Err-clause-read : goal.returns-in-Err-clause-read
returns-in-Err-clause-read c =
    at_first expression_end c.in-Err.ensures.read
