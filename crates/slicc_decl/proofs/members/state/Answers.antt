use Rattle.slicc_ast.specs.Parts.{name, pairs}
use Rattle.slicc_ast.specs.Prelude.{◌▸◌, colon, semicolon}
use Rattle.slicc_reading.proofs.Parts.{◌then◌, at_first, behind}
use Rattle.slicc_decl.proofs.members.state.Goals as goal

pub returns-in-Ok-ended_name-clause-read : goal.returns-in-Ok-ended_name-clause-read
returns-in-Ok-ended_name-clause-read c = c.in-Ok.ensures.read then c.in-Ok-ended_by.ensures.read then c.in-Ok-ended_name.ensures.read

pub returns-in-Err-ended_name-clause-read : goal.returns-in-Err-ended_name-clause-read
returns-in-Err-ended_name-clause-read c = behind (c.in-Ok.ensures.read then c.in-Ok-ended_by.ensures.read) c.in-Err-ended_name.ensures.read

pub returns-in-Err-ended_by-clause-read : goal.returns-in-Err-ended_by-clause-read
returns-in-Err-ended_by-clause-read c = behind c.in-Ok.ensures.read (at_first (name ▸ pairs ▸ semicolon) c.in-Err-ended_by.ensures.read)

pub returns-in-Err-clause-read : goal.returns-in-Err-clause-read
returns-in-Err-clause-read c = at_first (name ▸ colon ▸ name ▸ pairs ▸ semicolon) c.in-Err.ensures.read
