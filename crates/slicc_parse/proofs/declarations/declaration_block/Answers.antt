use Rattle.slicc_reading.proofs.Choices.{in_nesting, fault_in_nesting}
use Rattle.slicc_reading.proofs.Parts.{match_map}
use Rattle.slicc_parse.proofs.declarations.declaration_block.Goals as goal

pub returns-in-Ok : goal.returns-in-Ok
returns-in-Ok c =
    match_map c.closed_declarations.result c.closed_declarations.ensures (λ read is. in_nesting c.in-Ok.ensures.opened is) (λ fault is. fault_in_nesting c.in-Ok.ensures.opened is)

pub returns-in-Err : goal.returns-in-Err
returns-in-Err c = c.in-Err.ensures.refused _
