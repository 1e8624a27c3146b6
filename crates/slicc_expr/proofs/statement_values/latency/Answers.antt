use Rattle.std.proofs.Common.{sym}
use Rattle.slicc_ast.specs.Prelude.{done}
use Rattle.slicc_reading.proofs.Choices.{absent, fault_in_present, present}
use Rattle.slicc_ast.specs.declared.tree.token.Sign.TheVariants.{Comma}
use Rattle.slicc_expr.specs.Prelude.{value_after}
use Rattle.slicc_expr.proofs.statement_values.latency.Goals as goal

pub returns-then-not-is_sign : goal.returns-then-not-is_sign
returns-then-not-is_sign c =
    absent (value_after Comma done) (sym c.if-not-is_sign.ensures)

pub returns-in-Ok : goal.returns-in-Ok
returns-in-Ok c =
    present (sym c.if-not-is_sign.ensures) c.in-Ok.ensures

pub returns-in-Err : goal.returns-in-Err
returns-in-Err c =
    fault_in_present (sym c.if-not-is_sign.ensures) c.in-Err.ensures
