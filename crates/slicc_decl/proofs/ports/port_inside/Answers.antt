use Rattle.slicc_ast.specs.declared.tree.token.Sign.TheVariants.{CloseParenthesis}
use Rattle.slicc_ast.specs.Parts.{name, pairs, sign}
use Rattle.slicc_ast.specs.Prelude.{◌▸◌, comma, type}
use Rattle.slicc_reading.proofs.Parts.{◌then◌, at_first, behind}
use Rattle.slicc_decl.proofs.ports.port_inside.Goals as goal

pub returns-in-Ok-message_and_buffer : goal.returns-in-Ok-message_and_buffer
returns-in-Ok-message_and_buffer c = c.in-Ok.ensures.read then c.in-Ok-message_and_buffer.ensures

pub returns-in-Err-message_and_buffer : goal.returns-in-Err-message_and_buffer
returns-in-Err-message_and_buffer c = behind c.in-Ok.ensures.read c.in-Err-message_and_buffer.ensures

pub returns-in-Err : goal.returns-in-Err
returns-in-Err c = at_first (type ▸ comma ▸ name ▸ pairs ▸ sign CloseParenthesis) c.in-Err.ensures.read
