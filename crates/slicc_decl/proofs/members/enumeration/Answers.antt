use Rattle.std.proofs.Common.{refl, sym}
use Rattle.slicc_ast.specs.Form.Form.{enumeration}
use Rattle.slicc_ast.specs.Parts.{name, pairs}
use Rattle.slicc_ast.specs.Prelude.{◌▸◌, braces, parentheses, repeated}
use Rattle.slicc_reading.proofs.Parts.{◌then◌, as_node, at_first, at_no_alternative, behind, in_alternative, of_alternative}
use Rattle.slicc_decl.specs.Prelude.{symbol_row}
use Rattle.slicc_decl.proofs.members.enumeration.Goals as goal

pub returns-then-not-is_word : goal.returns-then-not-is_word
returns-then-not-is_word c = at_no_alternative enumeration (sym c.if-not-is_word.ensures) c.refuse.ensures

pub returns-in-Ok-symbol_block : goal.returns-in-Ok-symbol_block
returns-in-Ok-symbol_block c =
    of_alternative enumeration 0 refl (sym c.if-not-is_word.ensures)
    (as_node c.span-span.result c.span-span.ensures (c.in-Ok.ensures.read then c.in-Ok-head.ensures then c.in-Ok-symbol_block.ensures))

pub returns-in-Err-symbol_block : goal.returns-in-Err-symbol_block
returns-in-Err-symbol_block c =
    in_alternative enumeration 0 refl (sym c.if-not-is_word.ensures) (behind (c.in-Ok.ensures.read then c.in-Ok-head.ensures) c.in-Err-symbol_block.ensures)

pub returns-in-Err-head : goal.returns-in-Err-head
returns-in-Err-head c =
    in_alternative enumeration 0 refl (sym c.if-not-is_word.ensures) (behind c.in-Ok.ensures.read (at_first (braces (repeated symbol_row)) c.in-Err-head.ensures))

pub returns-in-Err : goal.returns-in-Err
returns-in-Err c =
    in_alternative enumeration 0 refl (sym c.if-not-is_word.ensures)
    (at_first (parentheses (name ▸ pairs) ▸ braces (repeated symbol_row)) c.in-Err.ensures.read)
