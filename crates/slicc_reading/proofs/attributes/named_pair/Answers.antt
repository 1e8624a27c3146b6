use Rattle.slicc_ast.specs.declared.tree.token.Sign.TheVariants.{Equals}
use Rattle.slicc_ast.specs.Parts.{sign}
use Rattle.slicc_ast.specs.Prelude.{◌▸◌, value}
use Rattle.slicc_reading.proofs.Parts.{◌then◌, as_node, as_part, at_first, behind}
use Rattle.slicc_reading.proofs.attributes.named_pair.Goals as goal

pub returns-in-Ok-assigned-clause-read : goal.returns-in-Ok-assigned-clause-read
returns-in-Ok-assigned-clause-read c =
    as_node c.span-span.result c.span-span.ensures (as_part c.in-Ok.ensures.read then c.in-Ok-assigned.ensures.read)

pub returns-in-Err-assigned-clause-read : goal.returns-in-Err-assigned-clause-read
returns-in-Err-assigned-clause-read c = behind (as_part c.in-Ok.ensures.read) c.in-Err-assigned.ensures.read

pub returns-in-Err-clause-read : goal.returns-in-Err-clause-read
returns-in-Err-clause-read c = at_first (sign Equals ▸ value) c.in-Err.ensures.read
