use Rattle.slicc_ast.specs.Prelude.{body, ◌▸◌, of}
use Rattle.slicc_ast.specs.Parts.{pairs}
use Rattle.slicc_reading.proofs.Parts.{◌then◌, at_first, behind}
use Rattle.slicc_parse.proofs.typed.function_end.Goals as goal

pub returns-in-Ok-pairs_and_body : goal.returns-in-Ok-pairs_and_body
returns-in-Ok-pairs_and_body c = c.in-Ok.ensures then c.in-Ok-pairs_and_body.ensures

pub returns-in-Err-pairs_and_body : goal.returns-in-Err-pairs_and_body
returns-in-Err-pairs_and_body c = behind c.in-Ok.ensures c.in-Err-pairs_and_body.ensures

pub returns-in-Err : goal.returns-in-Err
returns-in-Err c = at_first (pairs ▸ of body) c.in-Err.ensures
