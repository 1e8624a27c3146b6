use Rattle.std.proofs.Common.{refl, sym}
use Rattle.slicc_ast.specs.Form.Form.{member}
use Rattle.slicc_ast.specs.Prelude.{member_end, of}
use Rattle.slicc_reading.proofs.Parts.{at_first, at_no_alternative, behind_read, in_alternative, match_map, of_alternative, read_behind}
use Rattle.slicc_decl.proofs.structures.member.Goals as goal

pub returns-then-not-is_name-clause-read : goal.returns-then-not-is_name-clause-read
returns-then-not-is_name-clause-read c = at_no_alternative member (sym c.if-not-is_name.ensures) c.refuse.ensures

pub returns-in-Ok-clause-read : goal.returns-in-Ok-clause-read
returns-in-Ok-clause-read c =
    match_map c.member_end.result c.member_end.ensures
    (λ read is. of_alternative member 0 refl (sym c.if-not-is_name.ensures) (read_behind c.in-Ok.ensures.read is))
    (λ fault is. in_alternative member 0 refl (sym c.if-not-is_name.ensures) (behind_read c.in-Ok.ensures.read is))

pub returns-in-Err-clause-read : goal.returns-in-Err-clause-read
returns-in-Err-clause-read c = in_alternative member 0 refl (sym c.if-not-is_name.ensures) (at_first (of member_end) c.in-Err.ensures.read)
