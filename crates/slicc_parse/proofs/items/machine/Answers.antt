use Rattle.std.proofs.Common.{refl, sym}
use Rattle.slicc_ast.specs.Form.Form.{machine}
use Rattle.slicc_ast.specs.Prelude.{◌▸◌, parentheses}
use Rattle.slicc_reading.proofs.Parts.{◌then◌, as_node, at_first, at_no_alternative, behind, in_alternative, of_alternative}
use Rattle.slicc_parse.specs.Prelude.{head_row, machine_row}
use Rattle.slicc_parse.proofs.items.machine.Goals as goal

pub returns-then-not-is_word : goal.returns-then-not-is_word
returns-then-not-is_word c = at_no_alternative machine (sym c.if-not-is_word.ensures) c.refuse.ensures

pub returns-in-Ok-machine_end : goal.returns-in-Ok-machine_end
returns-in-Ok-machine_end c =
    rw c.of-parameters.ensures
    (rw c.of-declarations.ensures
    (of_alternative machine 0 refl (sym c.if-not-is_word.ensures)
    (as_node c.span-span.result c.span-span.ensures (c.in-Ok.ensures.read then c.in-Ok-machine_head.ensures then c.in-Ok-machine_end.ensures))))

pub returns-in-Err-machine_end : goal.returns-in-Err-machine_end
returns-in-Err-machine_end c =
    in_alternative machine 0 refl (sym c.if-not-is_word.ensures) (behind (c.in-Ok.ensures.read then c.in-Ok-machine_head.ensures) c.in-Err-machine_end.ensures)

pub returns-in-Err-machine_head : goal.returns-in-Err-machine_head
returns-in-Err-machine_head c =
    in_alternative machine 0 refl (sym c.if-not-is_word.ensures) (behind c.in-Ok.ensures.read (at_first machine_row c.in-Err-machine_head.ensures))

pub returns-in-Err : goal.returns-in-Err
returns-in-Err c = in_alternative machine 0 refl (sym c.if-not-is_word.ensures) (at_first (parentheses head_row ▸ machine_row) c.in-Err.ensures.read)
