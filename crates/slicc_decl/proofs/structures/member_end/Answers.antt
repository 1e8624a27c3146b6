use Rattle.std.proofs.Common.{refl, sym}
use Rattle.slicc_ast.specs.Prelude.{member_end}
use Rattle.slicc_reading.proofs.Parts.{at_no_alternative, in_alternative, match_map, of_alternative}
use Rattle.slicc_decl.proofs.NameKinds.{plain_ahead}
use Rattle.slicc_decl.proofs.structures.member_end.Goals as goal

pub returns-then-is_skipped_name : goal.returns-then-is_skipped_name
returns-then-is_skipped_name c =
    match_map c.skipped_member.result c.skipped_member.ensures
    (λ read is. of_alternative member_end 1 refl (sym c.if-is_skipped_name.ensures) is)
    (λ fault is. in_alternative member_end 1 refl (sym c.if-is_skipped_name.ensures) is)

pub returns-then-not-is_name : goal.returns-then-not-is_name
returns-then-not-is_name c = at_no_alternative member_end (sym c.if-not-is_name.ensures) c.refuse.ensures

pub plain_member-requires-clause-plain : goal.plain_member-requires-clause-plain
plain_member-requires-clause-plain c = plain_ahead c.args.tokens.now (sym c.if-not-is_name.ensures) (sym c.if-is_skipped_name.ensures)

pub returns : goal.returns
returns c =
    let ahead = plain_ahead c.args.tokens.now (sym c.if-not-is_name.ensures) (sym c.if-is_skipped_name.ensures) in
    match_map c.plain_member.result c.plain_member.ensures (λ read is. of_alternative member_end 0 refl ahead is) (λ fault is. in_alternative member_end 0 refl ahead is)
