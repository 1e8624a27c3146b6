use Rattle.slicc_ast.specs.Parts.{pairs}
use Rattle.slicc_ast.specs.Prelude.{◌▸◌, semicolon}
use Rattle.slicc_reading.proofs.Choices.{present, fault_in_present}
use Rattle.slicc_reading.proofs.Parts.{◌then◌, at_first, behind}
use Rattle.slicc_decl.proofs.structures.method_end.Goals as goal

pub returns-in-Ok-ended_pairs : goal.returns-in-Ok-ended_pairs
returns-in-Ok-ended_pairs c = present c.requires c.in-Ok.ensures then c.in-Ok-ended_pairs.ensures.read

pub returns-in-Err-ended_pairs : goal.returns-in-Err-ended_pairs
returns-in-Err-ended_pairs c = behind (present c.requires c.in-Ok.ensures) c.in-Err-ended_pairs.ensures.read

pub returns-in-Err : goal.returns-in-Err
returns-in-Err c = at_first (pairs ▸ semicolon) (fault_in_present c.requires c.in-Err.ensures)
