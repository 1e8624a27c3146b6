use Rattle.std.proofs.Common.{refl, sym}
use Rattle.slicc_ast.specs.Form.Form.{out_port}
use Rattle.slicc_ast.specs.Parts.{name, pairs}
use Rattle.slicc_ast.specs.Prelude.{◌▸◌, comma, parentheses, semicolon, type}
use Rattle.slicc_reading.proofs.Parts.{◌then◌, as_node, at_first, at_no_alternative, behind, in_alternative, of_alternative}
use Rattle.slicc_decl.proofs.ports.out_port.Goals as goal

pub returns-then-not-is_word : goal.returns-then-not-is_word
returns-then-not-is_word c = at_no_alternative out_port (sym c.if-not-is_word.ensures) c.refuse.ensures

pub returns-in-Ok-ended_head : goal.returns-in-Ok-ended_head
returns-in-Ok-ended_head c =
    of_alternative out_port 0 refl (sym c.if-not-is_word.ensures) (as_node c.span-span.result c.span-span.ensures (c.in-Ok.ensures.read then c.in-Ok-ended_head.ensures))

pub returns-in-Err-ended_head : goal.returns-in-Err-ended_head
returns-in-Err-ended_head c = in_alternative out_port 0 refl (sym c.if-not-is_word.ensures) (behind c.in-Ok.ensures.read c.in-Err-ended_head.ensures)

pub returns-in-Err : goal.returns-in-Err
returns-in-Err c =
    in_alternative out_port 0 refl (sym c.if-not-is_word.ensures)
    (at_first (parentheses (name ▸ comma ▸ type ▸ comma ▸ name ▸ pairs) ▸ semicolon) c.in-Err.ensures.read)
