use Rattle.std.proofs.Common.{sym}
use Rattle.slicc_ast.specs.Prelude.{done, transition_end, ◌▸◌, comma, of}
use Rattle.slicc_reading.proofs.Choices.{absent_read, present, fault_in_present}
use Rattle.slicc_reading.proofs.Parts.{as_part, at_first, match_map}
use Rattle.slicc_reading.proofs.Behind.{no_pairs}
use Rattle.slicc_decl.proofs.transitions.optional_end.Goals as goal

pub returns-then-not-is_sign : goal.returns-then-not-is_sign
returns-then-not-is_sign c =
    as_part (absent_read ((comma ▸ of transition_end) done) (sym c.if-not-is_sign.ensures) (no_pairs c.new-items.result c.new-items.ensures c.span-span.ensures))

pub returns-in-Ok : goal.returns-in-Ok
returns-in-Ok c =
    match_map c.transition_end.result c.transition_end.ensures (λ read is. present (sym c.if-not-is_sign.ensures) is) (λ fault is. fault_in_present (sym c.if-not-is_sign.ensures) is)

pub returns-in-Err : goal.returns-in-Err
returns-in-Err c = fault_in_present (sym c.if-not-is_sign.ensures) (at_first (of transition_end) c.in-Err.ensures.read)
