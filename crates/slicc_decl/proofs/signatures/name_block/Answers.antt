use Rattle.slicc_reading.proofs.Choices.{in_nesting, fault_in_nesting}
use Rattle.slicc_reading.proofs.Parts.{match_map}
use Rattle.slicc_decl.proofs.signatures.name_block.Goals as goal

pub returns-in-Ok-clause-read : goal.returns-in-Ok-clause-read
returns-in-Ok-clause-read c =
    match_map c.closed_names.result c.closed_names.ensures.read (λ read is. in_nesting c.in-Ok.ensures.opened is) (λ fault is. fault_in_nesting c.in-Ok.ensures.opened is)

pub returns-in-Err-clause-read : goal.returns-in-Err-clause-read
returns-in-Err-clause-read c = c.in-Err.ensures.refused _
