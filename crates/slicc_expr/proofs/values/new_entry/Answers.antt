use Rattle.slicc_ast.specs.Parts.{name}
use Rattle.slicc_reading.proofs.Parts.{◌then◌, as_node, as_part, at_first, behind}
use Rattle.slicc_expr.proofs.values.new_entry.Goals as goal

pub returns-in-Ok-name-clause-read : goal.returns-in-Ok-name-clause-read
returns-in-Ok-name-clause-read c = as_node c.span.result c.span.ensures (c.in-Ok.ensures.read then as_part c.in-Ok-name.ensures.read)

pub returns-in-Err-name-clause-read : goal.returns-in-Err-name-clause-read
returns-in-Err-name-clause-read c = behind c.in-Ok.ensures.read c.in-Err-name.ensures.read

pub returns-in-Err-clause-read : goal.returns-in-Err-clause-read
returns-in-Err-clause-read c = at_first name c.in-Err.ensures.read
