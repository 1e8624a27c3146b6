use Rattle.slicc_ast.specs.Parts.{balanced, pairs}
use Rattle.slicc_ast.specs.Prelude.{◌▸◌, braces}
use Rattle.slicc_reading.proofs.Parts.{◌then◌, at_first, behind}
use Rattle.slicc_decl.proofs.skipped_functions.skipped_end.Goals as goal

pub returns-in-Ok-pairs_and_body : goal.returns-in-Ok-pairs_and_body
returns-in-Ok-pairs_and_body c = c.in-Ok.ensures.read then c.in-Ok-pairs_and_body.ensures

pub returns-in-Err-pairs_and_body : goal.returns-in-Err-pairs_and_body
returns-in-Err-pairs_and_body c = behind c.in-Ok.ensures.read c.in-Err-pairs_and_body.ensures

pub returns-in-Err : goal.returns-in-Err
returns-in-Err c = at_first (pairs ▸ braces balanced) c.in-Err.ensures.read
