use Rattle.slicc_ast.specs.Prelude.{body, of}
use Rattle.slicc_reading.proofs.Parts.{◌then◌, as_part, at_first, behind}
use Rattle.slicc_parse.proofs.typed.pairs_and_body.Goals as goal

pub returns-in-Ok-body : goal.returns-in-Ok-body
returns-in-Ok-body c = as_part c.in-Ok.ensures then c.in-Ok-body.ensures

pub returns-in-Err-body : goal.returns-in-Err-body
returns-in-Err-body c = behind (as_part c.in-Ok.ensures) c.in-Err-body.ensures

pub returns-in-Err : goal.returns-in-Err
returns-in-Err c = at_first (of body) c.in-Err.ensures
