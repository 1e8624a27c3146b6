use Rattle.std.proofs.Common.{◌-◌, refl, sym}
use Rattle.slicc_ast.specs.Prelude.{Form, ◌▸◌}
use Rattle.slicc_ast.specs.Names.{balanced, sign as sign_of}
use Rattle.slicc_reading.proofs.BalancedParts.{braces_read, bracket_ahead, brackets_read, each_part, parentheses_read}
use Rattle.slicc_ast.specs.Parts.{balanced as balanced_form, sign}
use Rattle.slicc_reading.proofs.GoingOn.{fewer, nests, of_read, of_value, on_fault}
use Rattle.slicc_reading.proofs.Parts.{as_part, by_alternative, in_alternative, match_map}
use Rattle.slicc_reading.proofs.Repeats.{all_from, fault_in_one, one_more}
use Rattle.slicc_reading.proofs.brackets.+balanced.Goals as goal

pub balanced-parts-preserved : goal.balanced-parts-preserved
balanced-parts-preserved t c =
    let a = c.in-Ok.ensures.added in
    one_more c.parts.parts a.0 c.added.new.items a.1 (sym c.parts-test.ensures) (of_read _ _ c.next_part.result c.next_part.ensures.read a.2) c.parts.invariant

pub balanced-parts-smaller : goal.balanced-parts-smaller
balanced-parts-smaller t c = of_value _ c.next_part.result c.next_part.ensures.shorter c.in-Ok.ensures.added.2

pub balanced-returns-in-Err : goal.balanced-returns-in-Err
balanced-returns-in-Err t c = fault_in_one (sym c.parts-test.ensures) (c.in-Err.ensures.refused _ _ _ (on_fault _ _ c.next_part.result c.next_part.ensures.read)) c.parts.invariant

pub balanced-returns : goal.balanced-returns
balanced-returns t c =
    all_from c.span-span.result _ (each_part c.parts.parts) (sym c.parts-test.ensures) c.span-span.ensures c.parts.invariant

pub bracketed-returns-in-Ok : goal.bracketed-returns-in-Ok
bracketed-returns-in-Ok t c =
    let read = c.ended.ensures.read balanced_form balanced c.in-Ok.behind.now (match_map c.balanced.result c.balanced.ensures (λ read is. as_part is) (λ fault is. is)) in
    record {
      read = nests (balanced_form ▸ sign c.args.closer) (λ b others. balanced b (sign_of c.args.closer others)) c.ended.result c.in-Ok.ensures.opened read;
      shorter = fewer (c.args.room - 1) (balanced_form ▸ sign c.args.closer) c.in-Ok.behind.now (λ b others. balanced b (sign_of c.args.closer others)) c.ended.result c.in-Ok.ensures.shorter read;
    }

pub bracketed-returns-in-Err-clause-read : goal.bracketed-returns-in-Err-clause-read
bracketed-returns-in-Err-clause-read t c = c.in-Err.ensures.refused _

pub next_part-returns-in-Ok-clause-read : goal.next_part-returns-in-Ok-clause-read
next_part-returns-in-Ok-clause-read t c =
    by_alternative Form.balanced_part 1 refl (sym c.if-is_sign.ensures) (parentheses_read c.in-Ok.inner c.in-Ok.ensures.read)

pub next_part-returns-in-Err-clause-read : goal.next_part-returns-in-Err-clause-read
next_part-returns-in-Err-clause-read t c =
    in_alternative Form.balanced_part 1 refl (sym c.if-is_sign.ensures) c.in-Err.ensures.read

pub next_part-returns-in-Ok-bracketed-clause-read : goal.next_part-returns-in-Ok-bracketed-clause-read
next_part-returns-in-Ok-bracketed-clause-read t c =
    by_alternative Form.balanced_part 2 refl (sym c.if-is_sign-2.ensures) (brackets_read c.in-Ok-bracketed.inner c.in-Ok-bracketed.ensures.read)

pub next_part-returns-in-Err-bracketed-clause-read : goal.next_part-returns-in-Err-bracketed-clause-read
next_part-returns-in-Err-bracketed-clause-read t c =
    in_alternative Form.balanced_part 2 refl (sym c.if-is_sign-2.ensures) c.in-Err-bracketed.ensures.read

pub next_part-returns-in-Ok-bracketed-2-clause-read : goal.next_part-returns-in-Ok-bracketed-2-clause-read
next_part-returns-in-Ok-bracketed-2-clause-read t c =
    by_alternative Form.balanced_part 3 refl
    (bracket_ahead c.args.tokens.now c.requires (sym c.if-is_loose.ensures) (sym c.if-is_sign.ensures) (sym c.if-is_sign-2.ensures))
    (braces_read c.in-Ok-bracketed-2.inner c.in-Ok-bracketed-2.ensures.read)

pub next_part-returns-in-Err-bracketed-2-clause-read : goal.next_part-returns-in-Err-bracketed-2-clause-read
next_part-returns-in-Err-bracketed-2-clause-read t c =
    in_alternative Form.balanced_part 3 refl
    (bracket_ahead c.args.tokens.now c.requires (sym c.if-is_loose.ensures) (sym c.if-is_sign.ensures) (sym c.if-is_sign-2.ensures))
    c.in-Err-bracketed-2.ensures.read
