use Rattle.slicc_ast.specs.declared.tree.token.Sign.TheVariants.{CloseParenthesis}
use Rattle.slicc_ast.specs.Parts.{pairs, sign}
use Rattle.slicc_ast.specs.Prelude.{◌▸◌, comma, string}
use Rattle.slicc_reading.proofs.Parts.{◌then◌, at_first, behind}
use Rattle.slicc_decl.proofs.machine_heads.closed_head.Goals as goal

pub returns-in-Ok-title_and_pairs : goal.returns-in-Ok-title_and_pairs
returns-in-Ok-title_and_pairs c = c.in-Ok.ensures then c.in-Ok-title_and_pairs.ensures

pub returns-in-Err-title_and_pairs : goal.returns-in-Err-title_and_pairs
returns-in-Err-title_and_pairs c = behind c.in-Ok.ensures c.in-Err-title_and_pairs.ensures

pub returns-in-Err : goal.returns-in-Err
returns-in-Err c = at_first (comma ▸ string ▸ pairs ▸ sign CloseParenthesis) c.in-Err.ensures
