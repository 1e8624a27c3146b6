use Rattle.slicc_ast.specs.Names.{name as name_of}
use Rattle.slicc_ast.specs.Parts.{name}
use Rattle.slicc_reading.proofs.GoingOn.{weaker}
use Rattle.slicc_reading.proofs.Parts.{as_part, match_map}
use Rattle.slicc_decl.proofs.heads.ended_by.Goals as goal

pub returns-clause-read : goal.returns-clause-read
returns-clause-read c = c.ended.ensures.read name name_of _ (match_map c.name.result c.name.ensures.read (λ read is. as_part is) (λ fault is. is))

pub returns-clause-shorter : goal.returns-clause-shorter
returns-clause-shorter c = c.ended.ensures.shorter _ (weaker _ c.name.result c.name.ensures.shorter)
