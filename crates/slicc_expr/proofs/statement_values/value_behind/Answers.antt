use Rattle.slicc_ast.specs.Prelude.{operators}
use Rattle.slicc_reading.proofs.Parts.{at_first, behind_read, match_map, read_behind}
use Rattle.slicc_expr.proofs.statement_values.value_behind.Goals as goal

pub returns-in-Ok : goal.returns-in-Ok
returns-in-Ok c =
    match_map c.operators.result c.operators.ensures.read (λ read is. read_behind c.in-Ok.ensures.read is) (λ fault is. behind_read c.in-Ok.ensures.read is)

pub returns-in-Err : goal.returns-in-Err
returns-in-Err c =
    at_first operators c.in-Err.ensures.read
