use Rattle.slicc_ast.specs.declared.tree.token.Sign.TheVariants.{CloseParenthesis}
use Rattle.slicc_ast.specs.Parts.{name, pairs, sign}
use Rattle.slicc_ast.specs.Prelude.{◌▸◌}
use Rattle.slicc_reading.proofs.Parts.{◌then◌, at_first, behind}
use Rattle.slicc_decl.proofs.ports.message_and_buffer.Goals as goal

pub returns-in-Ok-ended_name : goal.returns-in-Ok-ended_name
returns-in-Ok-ended_name c = c.in-Ok.ensures then c.in-Ok-ended_name.ensures.read

pub returns-in-Err-ended_name : goal.returns-in-Err-ended_name
returns-in-Err-ended_name c = behind c.in-Ok.ensures c.in-Err-ended_name.ensures.read

pub returns-in-Err : goal.returns-in-Err
returns-in-Err c = at_first (name ▸ pairs ▸ sign CloseParenthesis) c.in-Err.ensures
