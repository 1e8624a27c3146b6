use Rattle.std.proofs.Common.{◌∷◌, [], refl, sym}
use Rattle.slicc_ast.specs.declared.tree.token.Sign.TheVariants.{Comma, OpenParenthesis, Semicolon}
use Rattle.slicc_ast.specs.Prelude.{functional_end, sign_kind}
use Rattle.slicc_reading.proofs.Behind.{as_node_behind_two}
use Rattle.slicc_reading.proofs.Parts.{at_no_alternative, in_alternative, of_alternative}
use Rattle.slicc_decl.proofs.FirstTokens.{neither_ahead}
use Rattle.slicc_decl.proofs.structures.functional_member.Goals as goal

pub returns-in-Ok : goal.returns-in-Ok
returns-in-Ok c = of_alternative functional_end 1 refl (sym c.if-is_sign.ensures) c.in-Ok.ensures

pub returns-in-Err : goal.returns-in-Err
returns-in-Err c = in_alternative functional_end 1 refl (sym c.if-is_sign.ensures) c.in-Err.ensures

pub returns-then-not-begins_ended_pairs : goal.returns-then-not-begins_ended_pairs
returns-then-not-begins_ended_pairs c =
    at_no_alternative functional_end
    (neither_ahead (sign_kind Comma ∷ sign_kind Semicolon ∷ []) (sign_kind OpenParenthesis ∷ []) c.args.behind.now (sym c.if-not-begins_ended_pairs.ensures) (sym c.if-is_sign.ensures))
    c.refuse.ensures

pub returns-in-Ok-ended_pairs : goal.returns-in-Ok-ended_pairs
returns-in-Ok-ended_pairs c =
    of_alternative functional_end 0 refl (sym c.if-not-begins_ended_pairs.ensures)
    (as_node_behind_two c.span-span.result c.span-span.ensures c.requires.kind c.requires.name c.in-Ok-ended_pairs.ensures.read)

pub returns-in-Err-ended_pairs : goal.returns-in-Err-ended_pairs
returns-in-Err-ended_pairs c = in_alternative functional_end 0 refl (sym c.if-not-begins_ended_pairs.ensures) c.in-Err-ended_pairs.ensures.read
