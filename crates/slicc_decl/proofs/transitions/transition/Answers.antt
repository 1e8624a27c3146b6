use Rattle.std.proofs.Common.{refl, sym}
use Rattle.slicc_ast.specs.Form.Form.{transition}
use Rattle.slicc_ast.specs.Prelude.{◌▸◌, braces, parentheses, repeated}
use Rattle.slicc_reading.proofs.Parts.{◌then◌, as_node, at_first, at_no_alternative, behind, in_alternative, of_alternative}
use Rattle.slicc_decl.specs.Prelude.{action_row, transition_inside}
use Rattle.slicc_decl.proofs.transitions.transition.Goals as goal

pub returns-then-not-is_word : goal.returns-then-not-is_word
returns-then-not-is_word c = at_no_alternative transition (sym c.if-not-is_word.ensures) c.refuse.ensures

pub returns-in-Ok-action_block : goal.returns-in-Ok-action_block
returns-in-Ok-action_block c =
    of_alternative transition 0 refl (sym c.if-not-is_word.ensures)
    (as_node c.span-span.result c.span-span.ensures (c.in-Ok.ensures.read then c.in-Ok-transition_head.ensures then c.in-Ok-action_block.ensures))

pub returns-in-Err-action_block : goal.returns-in-Err-action_block
returns-in-Err-action_block c = in_alternative transition 0 refl (sym c.if-not-is_word.ensures) (behind (c.in-Ok.ensures.read then c.in-Ok-transition_head.ensures) c.in-Err-action_block.ensures)

pub returns-in-Err-transition_head : goal.returns-in-Err-transition_head
returns-in-Err-transition_head c =
    in_alternative transition 0 refl (sym c.if-not-is_word.ensures) (behind c.in-Ok.ensures.read (at_first (braces (repeated action_row)) c.in-Err-transition_head.ensures))

pub returns-in-Err : goal.returns-in-Err
returns-in-Err c =
    in_alternative transition 0 refl (sym c.if-not-is_word.ensures) (at_first (parentheses transition_inside ▸ braces (repeated action_row)) c.in-Err.ensures.read)
