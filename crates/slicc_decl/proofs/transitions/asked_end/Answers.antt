use Rattle.slicc_ast.specs.Parts.{pairs}
use Rattle.slicc_reading.proofs.Parts.{◌then◌, as_node, as_part, at_first, behind}
use Rattle.slicc_decl.proofs.transitions.asked_end.Goals as goal

pub returns-in-Ok-pairs : goal.returns-in-Ok-pairs
returns-in-Ok-pairs c = as_part (as_node c.span-place.result c.span-place.ensures c.in-Ok.ensures.read) then as_part c.in-Ok-pairs.ensures

pub returns-in-Err-pairs : goal.returns-in-Err-pairs
returns-in-Err-pairs c = behind c.in-Ok.ensures.read c.in-Err-pairs.ensures

pub returns-in-Err : goal.returns-in-Err
returns-in-Err c = at_first pairs c.in-Err.ensures.read
