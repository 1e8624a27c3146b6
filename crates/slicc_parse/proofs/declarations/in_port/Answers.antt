use Rattle.std.proofs.Common.{refl, sym}
use Rattle.slicc_ast.specs.Form.Form.{block, in_port}
use Rattle.slicc_ast.specs.Parts.{name, pairs}
use Rattle.slicc_ast.specs.Prelude.{◌▸◌, comma, of, parentheses, type}
use Rattle.slicc_reading.proofs.Parts.{◌then◌, as_node, as_part, at_first, at_no_alternative, behind, in_alternative, of_alternative}
use Rattle.slicc_parse.proofs.declarations.in_port.Goals as goal

pub returns-then-not-is_word : goal.returns-then-not-is_word
returns-then-not-is_word c = at_no_alternative in_port (sym c.if-not-is_word.ensures) c.refuse.ensures

pub returns-in-Ok-statement_block : goal.returns-in-Ok-statement_block
returns-in-Ok-statement_block c =
    of_alternative in_port 0 refl (sym c.if-not-is_word.ensures)
    (as_node c.span-span.result c.span-span.ensures (c.in-Ok.ensures.read then c.in-Ok-port_head.ensures then as_part c.in-Ok-statement_block.ensures.read))

pub returns-in-Err-statement_block : goal.returns-in-Err-statement_block
returns-in-Err-statement_block c =
    in_alternative in_port 0 refl (sym c.if-not-is_word.ensures) (behind (c.in-Ok.ensures.read then c.in-Ok-port_head.ensures) c.in-Err-statement_block.ensures.read)

pub returns-in-Err-port_head : goal.returns-in-Err-port_head
returns-in-Err-port_head c = in_alternative in_port 0 refl (sym c.if-not-is_word.ensures) (behind c.in-Ok.ensures.read (at_first (of block) c.in-Err-port_head.ensures))

pub returns-in-Err : goal.returns-in-Err
returns-in-Err c =
    in_alternative in_port 0 refl (sym c.if-not-is_word.ensures)
    (at_first (parentheses (name ▸ comma ▸ type ▸ comma ▸ name ▸ pairs) ▸ of block) c.in-Err.ensures.read)
