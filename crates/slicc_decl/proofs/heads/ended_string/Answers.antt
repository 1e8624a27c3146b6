use Rattle.slicc_ast.specs.Prelude.{semicolon}
use Rattle.slicc_reading.proofs.Parts.{◌then◌, at_first, behind}
use Rattle.slicc_decl.proofs.heads.ended_string.Goals as goal

pub returns-in-Ok-sign : goal.returns-in-Ok-sign
returns-in-Ok-sign c = c.in-Ok.ensures.read then c.in-Ok-sign.ensures.read

pub returns-in-Err-sign : goal.returns-in-Err-sign
returns-in-Err-sign c = behind c.in-Ok.ensures.read c.in-Err-sign.ensures.read

pub returns-in-Err : goal.returns-in-Err
returns-in-Err c = at_first semicolon c.in-Err.ensures.read
