use Rattle.slicc_ast.specs.Names.{name}
use Rattle.slicc_reading.proofs.Parts.{as_part, at_first}
use Rattle.slicc_expr.specs.Prelude.{value_after, value_after_parts}
use Rattle.slicc_expr.proofs.statement_values.named_value.Goals as goal

pub returns-in-Ok : goal.returns-in-Ok
returns-in-Ok c =
    c.joined.ensures.read c.args.room _ _ name (value_after_parts c.args.between) _ _ (as_part c.in-Ok.ensures.read) c.value_after.ensures

pub returns-in-Err : goal.returns-in-Err
returns-in-Err c =
    at_first (value_after c.args.between) c.in-Err.ensures.read
