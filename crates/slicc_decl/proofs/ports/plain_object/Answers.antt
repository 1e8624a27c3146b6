use Rattle.slicc_reading.proofs.Behind.{as_node_behind_two}
use Rattle.slicc_decl.proofs.ports.plain_object.Goals as goal

pub returns-in-Ok : goal.returns-in-Ok
returns-in-Ok c = as_node_behind_two c.span-span.result c.span-span.ensures c.requires.kind c.requires.name c.in-Ok.ensures.read
