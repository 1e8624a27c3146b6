use Rattle.slicc_reading.proofs.Choices.{in_nesting, fault_in_nesting}
use Rattle.slicc_reading.proofs.Parts.{match_map}
use Rattle.slicc_decl.proofs.structures.member_block.Goals as goal

pub returns-in-Ok : goal.returns-in-Ok
returns-in-Ok c =
    match_map c.closed_members.result c.closed_members.ensures (λ read is. in_nesting c.in-Ok.ensures.opened is) (λ fault is. fault_in_nesting c.in-Ok.ensures.opened is)

pub returns-in-Err : goal.returns-in-Err
returns-in-Err c = c.in-Err.ensures.refused _
