use Rattle.slicc_ast.specs.Prelude.{value}
use Rattle.slicc_reading.proofs.Parts.{◌then◌, at_first, behind, match_map}
use Rattle.slicc_reading.proofs.attributes.assigned.Goals as goal

pub returns-in-Ok-clause-read : goal.returns-in-Ok-clause-read
returns-in-Ok-clause-read c =
    match_map c.pair_value.result c.pair_value.ensures.read (λ read is. c.in-Ok.ensures.read then is) (λ fault is. behind c.in-Ok.ensures.read is)

pub returns-in-Err-clause-read : goal.returns-in-Err-clause-read
returns-in-Err-clause-read c = at_first value c.in-Err.ensures.read
