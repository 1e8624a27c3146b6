use Rattle.std.proofs.Common.{sym}
use Rattle.slicc_ast.specs.Prelude.{done, ◌▸◌, comma, string}
use Rattle.slicc_reading.proofs.Choices.{absent, fault_in_present, present}
use Rattle.slicc_expr.proofs.StatementForms.{text_parts}
use Rattle.slicc_expr.proofs.values.optional_mode.Goals as goal

pub returns-then-not-is_string : goal.returns-then-not-is_string
returns-then-not-is_string c = absent ((string ▸ comma) done) (sym c.if-not-is_string.ensures)

pub returns-in-Ok : goal.returns-in-Ok
returns-in-Ok c =
    present (sym c.if-not-is_string.ensures) (c.in-Ok.ensures.read string text_parts _ c.string.ensures.read)

pub returns-in-Err : goal.returns-in-Err
returns-in-Err c =
    fault_in_present (sym c.if-not-is_string.ensures) (c.in-Err.ensures.read string text_parts _ c.string.ensures.read)
