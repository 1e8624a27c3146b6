use Rattle.std.proofs.Common.{◌∷◌, [], refl, sym}
use Rattle.slicc_ast.specs.declared.tree.token.Sign.TheVariants.{OpenBrace, Semicolon}
use Rattle.slicc_ast.specs.Prelude.{body, sign_kind}
use Rattle.slicc_reading.proofs.Parts.{as_part, at_no_alternative, by_alternative, in_alternative}
use Rattle.slicc_decl.proofs.FirstTokens.{neither_ahead}
use Rattle.slicc_parse.proofs.typed.body.Goals as goal

pub returns-in-Ok : goal.returns-in-Ok
returns-in-Ok c = by_alternative body 0 refl (sym c.if-is_sign.ensures) (as_part c.in-Ok.ensures.read)

pub returns-in-Err : goal.returns-in-Err
returns-in-Err c = in_alternative body 0 refl (sym c.if-is_sign.ensures) c.in-Err.ensures.read

pub returns-then-not-is_sign : goal.returns-then-not-is_sign
returns-then-not-is_sign c =
    at_no_alternative body
    (neither_ahead (sign_kind OpenBrace ∷ []) (sign_kind Semicolon ∷ []) c.args.tokens.now (sym c.if-is_sign.ensures) (sym c.if-not-is_sign.ensures)) c.refuse.ensures

pub returns-in-Ok-sign : goal.returns-in-Ok-sign
returns-in-Ok-sign c = by_alternative body 1 refl (sym c.if-not-is_sign.ensures) c.in-Ok-sign.ensures.read

pub returns-in-Err-sign : goal.returns-in-Err-sign
returns-in-Err-sign c = in_alternative body 1 refl (sym c.if-not-is_sign.ensures) c.in-Err-sign.ensures.read
