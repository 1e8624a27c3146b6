use Rattle.std.proofs.Common.{◌∷◌, [], refl, sym}
use Rattle.slicc_ast.specs.declared.tree.token.Sign.TheVariants.{Star}
use Rattle.slicc_ast.specs.Prelude.{declaration_end, names_of, sign_kind}
use Rattle.slicc_reading.proofs.Parts.{at_no_alternative, in_alternative, match_map, of_alternative}
use Rattle.slicc_decl.proofs.FirstTokens.{neither_ahead}
use Rattle.slicc_decl.proofs.NameKinds.{plain_ahead}
use Rattle.slicc_parse.proofs.typed.declaration_end.Goals as goal

pub returns-in-Ok : goal.returns-in-Ok
returns-in-Ok c = of_alternative declaration_end 0 refl (sym c.if-is_sign.ensures) c.in-Ok.ensures

pub returns-in-Err : goal.returns-in-Err
returns-in-Err c = in_alternative declaration_end 0 refl (sym c.if-is_sign.ensures) c.in-Err.ensures

pub returns-then-is_skipped_name : goal.returns-then-is_skipped_name
returns-then-is_skipped_name c =
    match_map c.skipped_end.result c.skipped_end.ensures
    (λ read is. of_alternative declaration_end 2 refl (sym c.if-is_skipped_name.ensures) is)
    (λ fault is. in_alternative declaration_end 2 refl (sym c.if-is_skipped_name.ensures) is)

pub returns-then-not-is_name : goal.returns-then-not-is_name
returns-then-not-is_name c =
    at_no_alternative declaration_end (neither_ahead (sign_kind Star ∷ []) names_of c.args.tokens.now (sym c.if-is_sign.ensures) (sym c.if-not-is_name.ensures)) c.refuse.ensures

pub plain_end-requires-clause-plain : goal.plain_end-requires-clause-plain
plain_end-requires-clause-plain c = plain_ahead c.args.tokens.now (sym c.if-not-is_name.ensures) (sym c.if-is_skipped_name.ensures)

pub returns : goal.returns
returns c =
    let ahead = plain_ahead c.args.tokens.now (sym c.if-not-is_name.ensures) (sym c.if-is_skipped_name.ensures) in
    match_map c.plain_end.result c.plain_end.ensures (λ read is. of_alternative declaration_end 1 refl ahead is) (λ fault is. in_alternative declaration_end 1 refl ahead is)
