use Rattle.slicc_ast.specs.Parts.{name}
use Rattle.slicc_reading.proofs.Parts.{◌then◌, as_part, at_first, behind, match_map}
use Rattle.slicc_reading.proofs.kept.name_after.Goals as goal

pub returns-in-Ok-clause-read : goal.returns-in-Ok-clause-read
returns-in-Ok-clause-read c =
    match_map c.name.result c.name.ensures.read (λ read is. c.in-Ok.ensures.read then as_part is) (λ fault is. behind c.in-Ok.ensures.read is)

pub returns-in-Err-clause-read : goal.returns-in-Err-clause-read
returns-in-Err-clause-read c = at_first name c.in-Err.ensures.read
