use Rattle.std.proofs.Common.{sym}
use Rattle.slicc_ast.specs.Prelude.{done, ◌▸◌, assign, of}
use Rattle.slicc_ast.specs.Form.Form.{literal}
use Rattle.slicc_reading.proofs.Choices.{absent, present, fault_in_present}
use Rattle.slicc_decl.proofs.parameters.optional_literal.Goals as goal

pub returns-then-not-is_sign : goal.returns-then-not-is_sign
returns-then-not-is_sign c = absent ((assign ▸ of literal) done) (sym c.if-not-is_sign.ensures)

pub returns-in-Ok : goal.returns-in-Ok
returns-in-Ok c = present (sym c.if-not-is_sign.ensures) c.in-Ok.ensures

pub returns-in-Err : goal.returns-in-Err
returns-in-Err c = fault_in_present (sym c.if-not-is_sign.ensures) c.in-Err.ensures
