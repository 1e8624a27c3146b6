use Rattle.slicc_ast.specs.Form.Form.{literal}
use Rattle.slicc_ast.specs.Parts.{pairs}
use Rattle.slicc_ast.specs.Prelude.{◌▸◌, assign, of, optional, semicolon}
use Rattle.slicc_reading.proofs.Parts.{◌then◌, as_part, at_first, behind}
use Rattle.slicc_decl.proofs.parameters.parameter_end.Goals as goal

pub returns-in-Ok-ended_pairs : goal.returns-in-Ok-ended_pairs
returns-in-Ok-ended_pairs c = as_part c.in-Ok.ensures.read then c.in-Ok-optional_literal.ensures then c.in-Ok-ended_pairs.ensures.read

pub returns-in-Err-ended_pairs : goal.returns-in-Err-ended_pairs
returns-in-Err-ended_pairs c = behind (as_part c.in-Ok.ensures.read then c.in-Ok-optional_literal.ensures) c.in-Err-ended_pairs.ensures.read

pub returns-in-Err-optional_literal : goal.returns-in-Err-optional_literal
returns-in-Err-optional_literal c = behind (as_part c.in-Ok.ensures.read) (at_first (pairs ▸ semicolon) c.in-Err-optional_literal.ensures)

pub returns-in-Err : goal.returns-in-Err
returns-in-Err c = at_first (optional (assign ▸ of literal) ▸ pairs ▸ semicolon) c.in-Err.ensures.read
