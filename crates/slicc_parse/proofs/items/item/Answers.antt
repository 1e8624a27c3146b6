use Rattle.std.proofs.Common.{◌∷◌, [], refl, sym}
use Rattle.slicc_ast.specs.declared.tree.token.Word.TheVariants.{Enumeration, Include, Machine, Structure}
use Rattle.slicc_ast.specs.Form.Form.{item}
use Rattle.slicc_ast.specs.Prelude.{word_kind}
use Rattle.slicc_reading.proofs.Parts.{at_no_alternative, in_alternative, match_map, of_alternative}
use Rattle.slicc_decl.proofs.FirstTokens.{neither_ahead}
use Rattle.slicc_parse.proofs.items.item.Goals as goal

pub returns-in-Ok : goal.returns-in-Ok
returns-in-Ok c = of_alternative item 3 refl (sym c.if-is_word.ensures) c.in-Ok.ensures

pub returns-in-Err : goal.returns-in-Err
returns-in-Err c = in_alternative item 3 refl (sym c.if-is_word.ensures) c.in-Err.ensures

pub returns-in-Ok-structure : goal.returns-in-Ok-structure
returns-in-Ok-structure c = of_alternative item 2 refl (sym c.if-is_word-2.ensures) c.in-Ok-structure.ensures

pub returns-in-Err-structure : goal.returns-in-Err-structure
returns-in-Err-structure c = in_alternative item 2 refl (sym c.if-is_word-2.ensures) c.in-Err-structure.ensures

pub returns-in-Ok-enumeration : goal.returns-in-Ok-enumeration
returns-in-Ok-enumeration c = of_alternative item 1 refl (sym c.if-is_word-3.ensures) c.in-Ok-enumeration.ensures

pub returns-in-Err-enumeration : goal.returns-in-Err-enumeration
returns-in-Err-enumeration c = in_alternative item 1 refl (sym c.if-is_word-3.ensures) c.in-Err-enumeration.ensures

pub returns-then-is_word-4 : goal.returns-then-is_word-4
returns-then-is_word-4 c =
    match_map c.include.result c.include.ensures
    (λ read is. of_alternative item 0 refl (sym c.if-is_word-4.ensures) is)
    (λ fault is. in_alternative item 0 refl (sym c.if-is_word-4.ensures) is)

pub returns : goal.returns
returns c =
    at_no_alternative item
    (neither_ahead (word_kind Include ∷ []) (word_kind Enumeration ∷ word_kind Structure ∷ word_kind Machine ∷ []) c.args.tokens.now (sym c.if-is_word-4.ensures)
    (neither_ahead (word_kind Enumeration ∷ []) (word_kind Structure ∷ word_kind Machine ∷ []) c.args.tokens.now (sym c.if-is_word-3.ensures)
    (neither_ahead (word_kind Structure ∷ []) (word_kind Machine ∷ []) c.args.tokens.now (sym c.if-is_word-2.ensures)
    (sym c.if-is_word.ensures))))
    c.refuse.ensures
