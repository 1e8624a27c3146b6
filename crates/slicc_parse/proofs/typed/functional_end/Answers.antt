use Rattle.std.proofs.Common.{◌∷◌, [], refl, sym}
use Rattle.slicc_ast.specs.declared.tree.token.Sign.TheVariants.{Comma, OpenParenthesis, Semicolon}
use Rattle.slicc_ast.specs.Prelude.{functional_end, sign_kind}
use Rattle.slicc_reading.proofs.Parts.{at_no_alternative, in_alternative, match_map, of_alternative}
use Rattle.slicc_decl.proofs.FirstTokens.{neither_ahead}
use Rattle.slicc_parse.proofs.typed.functional_end.Goals as goal

pub returns-in-Ok : goal.returns-in-Ok
returns-in-Ok c = of_alternative functional_end 1 refl (sym c.if-is_sign.ensures) c.in-Ok.ensures

pub returns-in-Err : goal.returns-in-Err
returns-in-Err c = in_alternative functional_end 1 refl (sym c.if-is_sign.ensures) c.in-Err.ensures

pub returns-then-not-begins_ended_pairs : goal.returns-then-not-begins_ended_pairs
returns-then-not-begins_ended_pairs c =
    at_no_alternative functional_end
    (neither_ahead (sign_kind Comma ∷ sign_kind Semicolon ∷ []) (sign_kind OpenParenthesis ∷ []) c.args.behind.now (sym c.if-not-begins_ended_pairs.ensures) (sym c.if-is_sign.ensures))
    c.refuse.ensures

pub returns : goal.returns
returns c =
    match_map c.object.result c.object.ensures
    (λ read is. of_alternative functional_end 0 refl (sym c.if-not-begins_ended_pairs.ensures) is)
    (λ fault is. in_alternative functional_end 0 refl (sym c.if-not-begins_ended_pairs.ensures) is)
