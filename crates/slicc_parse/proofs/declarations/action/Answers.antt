use Rattle.std.proofs.Common.{refl, sym}
use Rattle.slicc_ast.specs.Form.Form.{action, block}
use Rattle.slicc_ast.specs.Parts.{name, pairs}
use Rattle.slicc_ast.specs.Prelude.{◌▸◌, of, parentheses}
use Rattle.slicc_reading.proofs.Parts.{◌then◌, as_node, as_part, at_first, at_no_alternative, behind, in_alternative, of_alternative}
use Rattle.slicc_parse.proofs.declarations.action.Goals as goal

pub returns-then-not-is_word : goal.returns-then-not-is_word
returns-then-not-is_word c = at_no_alternative action (sym c.if-not-is_word.ensures) c.refuse.ensures

pub returns-in-Ok-statement_block : goal.returns-in-Ok-statement_block
returns-in-Ok-statement_block c =
    of_alternative action 0 refl (sym c.if-not-is_word.ensures)
    (as_node c.span-span.result c.span-span.ensures (c.in-Ok.ensures.read then c.in-Ok-head.ensures then as_part c.in-Ok-statement_block.ensures.read))

pub returns-in-Err-statement_block : goal.returns-in-Err-statement_block
returns-in-Err-statement_block c =
    in_alternative action 0 refl (sym c.if-not-is_word.ensures) (behind (c.in-Ok.ensures.read then c.in-Ok-head.ensures) c.in-Err-statement_block.ensures.read)

pub returns-in-Err-head : goal.returns-in-Err-head
returns-in-Err-head c = in_alternative action 0 refl (sym c.if-not-is_word.ensures) (behind c.in-Ok.ensures.read (at_first (of block) c.in-Err-head.ensures))

pub returns-in-Err : goal.returns-in-Err
returns-in-Err c =
    in_alternative action 0 refl (sym c.if-not-is_word.ensures)
    (at_first (parentheses (name ▸ pairs) ▸ of block) c.in-Err.ensures.read)
