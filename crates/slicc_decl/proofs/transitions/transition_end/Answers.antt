use Rattle.std.proofs.Common.{◌∷◌, [], refl, sym}
use Rattle.slicc_ast.specs.Prelude.{done, transition_end, ◌▸◌, names_of, optional, value, quoted, sign_kind}
use Rattle.slicc_ast.specs.declared.tree.token.Sign.TheVariants.{Equals, Star}
use Rattle.slicc_ast.specs.Parts.{pairs, sign}
use Rattle.slicc_reading.proofs.Choices.{absent}
use Rattle.slicc_reading.proofs.Parts.{◌then◌, as_part, at_first, at_no_alternative, behind, by_alternative, in_alternative, of_alternative}
use Rattle.slicc_reading.proofs.Behind.{from_start, goes_on}
use Rattle.slicc_decl.proofs.FirstTokens.{neither_ahead}
use Rattle.slicc_decl.proofs.transitions.transition_end.Goals as goal

pub returns-in-Ok : goal.returns-in-Ok
returns-in-Ok c = from_start c.requires (of_alternative transition_end 1 refl (sym c.if-is_string.ensures) c.in-Ok.ensures)

pub returns-in-Err : goal.returns-in-Err
returns-in-Err c = behind c.requires (in_alternative transition_end 1 refl (sym c.if-is_string.ensures) c.in-Err.ensures)

pub returns-in-Ok-asked_end : goal.returns-in-Ok-asked_end
returns-in-Ok-asked_end c = c.requires then by_alternative transition_end 2 refl (sym c.if-is_sign.ensures) c.in-Ok-asked_end.ensures

pub returns-in-Err-asked_end : goal.returns-in-Err-asked_end
returns-in-Err-asked_end c = behind c.requires (in_alternative transition_end 2 refl (sym c.if-is_sign.ensures) c.in-Err-asked_end.ensures)

pub returns-then-not-is_name : goal.returns-then-not-is_name
returns-then-not-is_name c =
    behind c.requires
    (at_no_alternative transition_end
    (neither_ahead names_of (quoted ∷ sign_kind Star ∷ []) c.args.tokens.now (sym c.if-not-is_name.ensures)
    (neither_ahead (quoted ∷ []) (sign_kind Star ∷ []) c.args.tokens.now (sym c.if-is_string.ensures) (sym c.if-is_sign.ensures))) c.refuse.ensures)

pub returns-in-Err-name : goal.returns-in-Err-name
returns-in-Err-name c =
    behind c.requires (in_alternative transition_end 0 refl (sym c.if-not-is_name.ensures) (at_first (optional (sign Equals ▸ value) ▸ pairs) c.in-Err-name.ensures.read))

pub returns-in-Ok-valued_end : goal.returns-in-Ok-valued_end
returns-in-Ok-valued_end c =
    from_start c.requires
    (of_alternative transition_end 0 refl (sym c.if-not-is_name.ensures) (goes_on (as_part c.in-Ok-name.ensures.read) c.in-Ok-valued_end.ensures))

pub returns-in-Err-valued_end : goal.returns-in-Err-valued_end
returns-in-Err-valued_end c =
    behind c.requires
    (in_alternative transition_end 0 refl (sym c.if-not-is_name.ensures) (behind (as_part c.in-Ok-name.ensures.read) c.in-Err-valued_end.ensures))

pub returns-in-Ok-pairs : goal.returns-in-Ok-pairs
returns-in-Ok-pairs c =
    c.requires then by_alternative transition_end 0 refl (sym c.if-not-is_name.ensures)
    (as_part c.in-Ok-name.ensures.read then absent ((sign Equals ▸ value) done) (sym c.if-is_sign-2.ensures) then as_part c.in-Ok-pairs.ensures)

pub returns-in-Err-pairs : goal.returns-in-Err-pairs
returns-in-Err-pairs c =
    behind c.requires
    (in_alternative transition_end 0 refl (sym c.if-not-is_name.ensures)
    (behind (as_part c.in-Ok-name.ensures.read then absent ((sign Equals ▸ value) done) (sym c.if-is_sign-2.ensures)) c.in-Err-pairs.ensures))
