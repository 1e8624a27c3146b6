use Rattle.std.proofs.Common.{◌∷◌, [], refl, sym}
use Rattle.slicc_ast.specs.declared.tree.token.Sign.TheVariants.{OpenBrace}
use Rattle.slicc_ast.specs.Form.Form.{names}
use Rattle.slicc_ast.specs.Prelude.{names_of, sign_kind}
use Rattle.slicc_reading.proofs.Parts.{allow, as_node, as_part, at_no_alternative, by_alternative, in_alternative}
use Rattle.slicc_decl.proofs.FirstTokens.{neither_ahead}
use Rattle.slicc_decl.proofs.signatures.names.Goals as goal

pub returns-in-Ok : goal.returns-in-Ok
returns-in-Ok c = by_alternative names 0 refl (sym c.if-is_name.ensures) (as_part c.in-Ok.ensures.read)

pub returns-in-Err : goal.returns-in-Err
returns-in-Err c = in_alternative names 0 refl (sym c.if-is_name.ensures) c.in-Err.ensures.read

pub returns-then-not-is_sign : goal.returns-then-not-is_sign
returns-then-not-is_sign c =
    at_no_alternative names (neither_ahead names_of (sign_kind OpenBrace ∷ []) c.args.tokens.now (sym c.if-is_name.ensures) (sym c.if-not-is_sign.ensures)) c.refuse.ensures

pub returns-in-Ok-name_block : goal.returns-in-Ok-name_block
returns-in-Ok-name_block c =
    by_alternative names 1 refl (sym c.if-not-is_sign.ensures)
    (as_part (as_node c.span-span.result c.span-span.ensures (allow c.in-Ok-name_block.ensures.some c.in-Ok-name_block.ensures.read)))

pub returns-in-Err-name_block : goal.returns-in-Err-name_block
returns-in-Err-name_block c = in_alternative names 1 refl (sym c.if-not-is_sign.ensures) c.in-Err-name_block.ensures.read
