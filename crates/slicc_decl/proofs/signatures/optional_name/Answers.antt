use Rattle.std.proofs.Common.{sym}
use Rattle.slicc_ast.specs.Prelude.{done}
use Rattle.slicc_ast.specs.Parts.{name}
use Rattle.slicc_reading.proofs.Choices.{absent, present, fault_in_present}
use Rattle.slicc_reading.proofs.Parts.{as_part}
use Rattle.slicc_decl.proofs.signatures.optional_name.Goals as goal

pub returns-then-not-is_name : goal.returns-then-not-is_name
returns-then-not-is_name c = absent (name done) (sym c.if-not-is_name.ensures)

pub returns-in-Ok : goal.returns-in-Ok
returns-in-Ok c = present (sym c.if-not-is_name.ensures) (as_part c.in-Ok.ensures.read)

pub returns-in-Err : goal.returns-in-Err
returns-in-Err c = fault_in_present (sym c.if-not-is_name.ensures) c.in-Err.ensures.read
