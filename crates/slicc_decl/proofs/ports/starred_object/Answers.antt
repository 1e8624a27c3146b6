use Rattle.slicc_ast.specs.Parts.{name, pairs}
use Rattle.slicc_ast.specs.Prelude.{◌▸◌, semicolon}
use Rattle.slicc_reading.proofs.Parts.{◌then◌, as_node_behind, at_first, behind}
use Rattle.slicc_decl.proofs.ports.starred_object.Goals as goal

pub returns-in-Ok-ended_name : goal.returns-in-Ok-ended_name
returns-in-Ok-ended_name c = as_node_behind c.span-span.result c.span-span.ensures c.requires (c.in-Ok.ensures.read then c.in-Ok-ended_name.ensures.read)

pub returns-in-Err-ended_name : goal.returns-in-Err-ended_name
returns-in-Err-ended_name c = behind c.in-Ok.ensures.read c.in-Err-ended_name.ensures.read

pub returns-in-Err : goal.returns-in-Err
returns-in-Err c = at_first (name ▸ pairs ▸ semicolon) c.in-Err.ensures.read
