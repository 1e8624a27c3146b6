use Rattle.slicc_reading.proofs.Parts.{as_node}
use Rattle.slicc_decl.proofs.heads.include.Goals as goal

pub returns-in-Ok : goal.returns-in-Ok
returns-in-Ok c = as_node c.span.result c.span.ensures c.in-Ok.ensures
