use Rattle.std.proofs.Common.{rules, refl, sym}
use Rattle.slicc_ast.specs.Form.Form.{literal}
use Rattle.slicc_reading.proofs.Parts.{as_node, at_no_alternative, in_alternative, match_map, of_alternative}
use Rattle.slicc_decl.proofs.FirstTokens.{no_literal}
use Rattle.slicc_decl.proofs.parameters.literal.Goals as goal

pub returns-then-is_sign-clause-read : goal.returns-then-is_sign-clause-read
returns-then-is_sign-clause-read c =
    match_map c.negative.result c.negative.ensures.read
    (λ read is. of_alternative literal 1 refl (sym c.if-is_sign.ensures) is) (λ fault is. in_alternative literal 1 refl (sym c.if-is_sign.ensures) is)

pub returns-in-Ok-clause-read : goal.returns-in-Ok-clause-read
returns-in-Ok-clause-read c = of_alternative literal 2 refl (sym c.if-is_string.ensures) (as_node c.span.result c.span.ensures c.in-Ok.ensures.read)

pub returns-in-Err-clause-read : goal.returns-in-Err-clause-read
returns-in-Err-clause-read c = in_alternative literal 2 refl (sym c.if-is_string.ensures) c.in-Err.ensures.read

pub returns-in-Ok-word-clause-read : goal.returns-in-Ok-word-clause-read
returns-in-Ok-word-clause-read c = of_alternative literal 3 refl (sym c.if-is_word.ensures) (as_node c.span-in-Ok-word.result c.span-in-Ok-word.ensures c.in-Ok-word.ensures.read)

pub returns-in-Err-word-clause-read : goal.returns-in-Err-word-clause-read
returns-in-Err-word-clause-read c = in_alternative literal 3 refl (sym c.if-is_word.ensures) c.in-Err-word.ensures.read

pub returns-in-Ok-word-2-clause-read : goal.returns-in-Ok-word-2-clause-read
returns-in-Ok-word-2-clause-read c = of_alternative literal 4 refl (sym c.if-is_word-2.ensures) (as_node c.span-in-Ok-word-2.result c.span-in-Ok-word-2.ensures c.in-Ok-word-2.ensures.read)

pub returns-in-Err-word-2-clause-read : goal.returns-in-Err-word-2-clause-read
returns-in-Err-word-2-clause-read c = in_alternative literal 4 refl (sym c.if-is_word-2.ensures) c.in-Err-word-2.ensures.read

pub returns-in-Ok-number-clause-read : goal.returns-in-Ok-number-clause-read
returns-in-Ok-number-clause-read c =
    let read = of_alternative literal 0 refl (sym c.if-not-is_number.ensures) (as_node c.span-in-Ok-number.result c.span-in-Ok-number.ensures c.in-Ok-number.ensures.read) in
    search (rules, read)

pub returns-in-Err-number-clause-read : goal.returns-in-Err-number-clause-read
returns-in-Err-number-clause-read c = in_alternative literal 0 refl (sym c.if-not-is_number.ensures) c.in-Err-number.ensures.read

pub returns-then-not-is_number-clause-read : goal.returns-then-not-is_number-clause-read
returns-then-not-is_number-clause-read c =
    at_no_alternative literal
    (no_literal c.args.tokens.now (sym c.if-not-is_number.ensures) (sym c.if-is_sign.ensures) (sym c.if-is_string.ensures) (sym c.if-is_word.ensures) (sym c.if-is_word-2.ensures))
    c.refuse.ensures
