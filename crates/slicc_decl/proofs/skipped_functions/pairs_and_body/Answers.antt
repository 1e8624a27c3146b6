use Rattle.slicc_ast.specs.Parts.{balanced}
use Rattle.slicc_ast.specs.Prelude.{braces}
use Rattle.slicc_reading.proofs.Parts.{◌then◌, as_part, at_first, behind}
use Rattle.slicc_decl.proofs.skipped_functions.pairs_and_body.Goals as goal

pub returns-in-Ok-bracketed : goal.returns-in-Ok-bracketed
returns-in-Ok-bracketed c = as_part c.in-Ok.ensures then c.in-Ok-bracketed.ensures.read

pub returns-in-Err-bracketed : goal.returns-in-Err-bracketed
returns-in-Err-bracketed c = behind (as_part c.in-Ok.ensures) c.in-Err-bracketed.ensures.read

pub returns-in-Err : goal.returns-in-Err
returns-in-Err c = at_first (braces balanced) c.in-Err.ensures
