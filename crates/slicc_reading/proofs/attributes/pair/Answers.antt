use Rattle.std.proofs.Common.{refl, sym}
use Rattle.slicc_ast.specs.Form.Form.{pair}
use Rattle.slicc_reading.proofs.PairLists.{no_pair}
use Rattle.slicc_reading.proofs.Parts.{as_node, at_no_alternative, in_alternative, match_map, of_alternative}
use Rattle.slicc_reading.proofs.attributes.pair.Goals as goal

pub returns-then-is_name-clause-read : goal.returns-then-is_name-clause-read
returns-then-is_name-clause-read c =
    match_map c.named_pair.result c.named_pair.ensures.read
    (λ read is. of_alternative pair 0 refl (sym c.if-is_name.ensures) is) (λ fault is. in_alternative pair 0 refl (sym c.if-is_name.ensures) is)

pub returns-then-not-is_string-clause-read : goal.returns-then-not-is_string-clause-read
returns-then-not-is_string-clause-read c =
    at_no_alternative pair (no_pair c.args.tokens.now (sym c.if-is_name.ensures) (sym c.if-not-is_string.ensures)) c.refuse.ensures

pub returns-in-Ok-clause-read : goal.returns-in-Ok-clause-read
returns-in-Ok-clause-read c = of_alternative pair 1 refl (sym c.if-not-is_string.ensures) (as_node c.span.result c.span.ensures c.in-Ok.ensures.read)

pub returns-in-Err-clause-read : goal.returns-in-Err-clause-read
returns-in-Err-clause-read c = in_alternative pair 1 refl (sym c.if-not-is_string.ensures) c.in-Err.ensures.read
