use Rattle.slicc_reading.proofs.Choices.{present, fault_in_present}
use Rattle.slicc_ast.specs.Parts.{pairs}
use Rattle.slicc_reading.proofs.Parts.{◌then◌, as_node, as_part, at_first, behind, match_map}
use Rattle.slicc_reading.proofs.Behind.{comma_before, goes_on}
use Rattle.slicc_decl.proofs.transitions.valued_end.Goals as goal

pub further_pairs-requires : goal.further_pairs-requires
further_pairs-requires c = comma_before c.requires.comma (as_node c.span-span.result c.span-span.ensures (as_part c.requires.name then c.in-Ok.ensures.read)).is_node

pub returns-in-Ok : goal.returns-in-Ok
returns-in-Ok c =
    match_map c.further_pairs.result c.further_pairs.ensures (λ read is. goes_on (present c.requires.ahead c.in-Ok.ensures.read) is) (λ fault is. behind (present c.requires.ahead c.in-Ok.ensures.read) is)

pub returns-in-Err : goal.returns-in-Err
returns-in-Err c = at_first pairs (fault_in_present c.requires.ahead c.in-Err.ensures.read)
