use Rattle.slicc_ast.specs.Parts.{pairs, sign}
use Rattle.slicc_ast.specs.Prelude.{◌▸◌}
use Rattle.slicc_reading.proofs.Parts.{◌then◌, as_part, at_first, behind}
use Rattle.slicc_decl.proofs.heads.ended_name.Goals as goal

pub returns-in-Ok-ended_pairs-clause-read : goal.returns-in-Ok-ended_pairs-clause-read
returns-in-Ok-ended_pairs-clause-read c = as_part c.in-Ok.ensures.read then c.in-Ok-ended_pairs.ensures.read

pub returns-in-Err-ended_pairs-clause-read : goal.returns-in-Err-ended_pairs-clause-read
returns-in-Err-ended_pairs-clause-read c = behind (as_part c.in-Ok.ensures.read) c.in-Err-ended_pairs.ensures.read

pub returns-in-Err-clause-read : goal.returns-in-Err-clause-read
returns-in-Err-clause-read c = at_first (pairs ▸ sign c.args.end) c.in-Err.ensures.read
