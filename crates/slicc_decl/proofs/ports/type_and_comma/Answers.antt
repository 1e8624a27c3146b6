use Rattle.slicc_ast.specs.Prelude.{comma}
use Rattle.slicc_reading.proofs.Parts.{◌then◌, as_part, at_first, behind}
use Rattle.slicc_decl.proofs.ports.type_and_comma.Goals as goal

pub returns-in-Ok-sign : goal.returns-in-Ok-sign
returns-in-Ok-sign c = as_part c.in-Ok.ensures.read then c.in-Ok-sign.ensures.read

pub returns-in-Err-sign : goal.returns-in-Err-sign
returns-in-Err-sign c = behind (as_part c.in-Ok.ensures.read) c.in-Err-sign.ensures.read

pub returns-in-Err : goal.returns-in-Err
returns-in-Err c = at_first (comma) c.in-Err.ensures.read
