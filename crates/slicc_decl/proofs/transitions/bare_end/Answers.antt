use Rattle.slicc_ast.specs.Parts.{pairs}
use Rattle.slicc_reading.proofs.Parts.{as_node, at_first, behind, match_map}
use Rattle.slicc_reading.proofs.Behind.{comma_before, goes_on}
use Rattle.slicc_decl.proofs.transitions.bare_end.Goals as goal

pub further_pairs-requires : goal.further_pairs-requires
further_pairs-requires c = comma_before c.requires (as_node c.span.result c.span.ensures c.in-Ok.ensures.read).is_node

pub returns-in-Ok : goal.returns-in-Ok
returns-in-Ok c =
    match_map c.further_pairs.result c.further_pairs.ensures (λ read is. goes_on c.in-Ok.ensures.read is) (λ fault is. behind c.in-Ok.ensures.read is)

pub returns-in-Err : goal.returns-in-Err
returns-in-Err c = at_first pairs c.in-Err.ensures.read
