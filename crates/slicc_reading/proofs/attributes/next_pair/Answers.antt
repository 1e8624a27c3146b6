use Rattle.slicc_ast.specs.Form.Form.{pair}
use Rattle.slicc_ast.specs.Prelude.{of}
use Rattle.slicc_reading.proofs.Parts.{◌then◌, as_part, at_first, behind, match_map}
use Rattle.slicc_reading.proofs.attributes.next_pair.Goals as goal

pub returns-in-Ok-clause-read : goal.returns-in-Ok-clause-read
returns-in-Ok-clause-read c =
    match_map c.pair.result c.pair.ensures.read (λ read is. c.in-Ok.ensures.read then as_part is) (λ fault is. behind c.in-Ok.ensures.read is)

pub returns-in-Err-clause-read : goal.returns-in-Err-clause-read
returns-in-Err-clause-read c = at_first (of pair) c.in-Err.ensures.read
