use Rattle.slicc_ast.specs.declared.tree.token.Sign.TheVariants.{CloseParenthesis}
use Rattle.slicc_ast.specs.Parts.{pairs, sign}
use Rattle.slicc_ast.specs.Prelude.{◌▸◌, string}
use Rattle.slicc_reading.proofs.Parts.{◌then◌, at_first, behind}
use Rattle.slicc_decl.proofs.machine_heads.title_and_pairs.Goals as goal

pub returns-in-Ok-ended_pairs : goal.returns-in-Ok-ended_pairs
returns-in-Ok-ended_pairs c = c.in-Ok.ensures.read then c.in-Ok-string.ensures.read then c.in-Ok-ended_pairs.ensures.read

pub returns-in-Err-ended_pairs : goal.returns-in-Err-ended_pairs
returns-in-Err-ended_pairs c = behind (c.in-Ok.ensures.read then c.in-Ok-string.ensures.read) c.in-Err-ended_pairs.ensures.read

pub returns-in-Err-string : goal.returns-in-Err-string
returns-in-Err-string c = behind c.in-Ok.ensures.read (at_first (pairs ▸ sign CloseParenthesis) c.in-Err-string.ensures.read)

pub returns-in-Err : goal.returns-in-Err
returns-in-Err c = at_first (string ▸ pairs ▸ sign CloseParenthesis) c.in-Err.ensures.read
