use Rattle.std.proofs.Common.{refl, sym}
use Rattle.slicc_ast.specs.Form.Form.{member, structure}
use Rattle.slicc_ast.specs.Parts.{name, pairs}
use Rattle.slicc_ast.specs.Prelude.{◌▸◌, braces, of, parentheses, repeated}
use Rattle.slicc_reading.proofs.Parts.{◌then◌, as_node, at_first, at_no_alternative, behind, in_alternative, of_alternative}
use Rattle.slicc_decl.proofs.structures.structure.Goals as goal

pub returns-then-not-is_word : goal.returns-then-not-is_word
returns-then-not-is_word c = at_no_alternative structure (sym c.if-not-is_word.ensures) c.refuse.ensures

pub returns-in-Ok-member_block : goal.returns-in-Ok-member_block
returns-in-Ok-member_block c =
    of_alternative structure 0 refl (sym c.if-not-is_word.ensures)
    (as_node c.span-span.result c.span-span.ensures (c.in-Ok.ensures.read then c.in-Ok-head.ensures then c.in-Ok-member_block.ensures))

pub returns-in-Err-member_block : goal.returns-in-Err-member_block
returns-in-Err-member_block c =
    in_alternative structure 0 refl (sym c.if-not-is_word.ensures) (behind (c.in-Ok.ensures.read then c.in-Ok-head.ensures) c.in-Err-member_block.ensures)

pub returns-in-Err-head : goal.returns-in-Err-head
returns-in-Err-head c =
    in_alternative structure 0 refl (sym c.if-not-is_word.ensures) (behind c.in-Ok.ensures.read (at_first (braces (repeated (of member))) c.in-Err-head.ensures))

pub returns-in-Err : goal.returns-in-Err
returns-in-Err c =
    in_alternative structure 0 refl (sym c.if-not-is_word.ensures)
    (at_first (parentheses (name ▸ pairs) ▸ braces (repeated (of member))) c.in-Err.ensures.read)
