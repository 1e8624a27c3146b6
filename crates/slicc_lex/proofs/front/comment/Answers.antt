use Rattle.std.proofs.Common.{◌+◌, sym, ap, subst, arith, inr, length}
use Rattle.std.proofs.lemmas.List.Sums.{prefix_len-le-length}
use Rattle.slicc_lex.specs.declared.fault.LexFault.TheVariants.{OpenComment}
use Rattle.slicc_lex.specs.declared.piece.Piece.TheVariants.{Gap}
use Rattle.slicc_lex.specs.Prelude.{is_in_line, IsFault, Stands}
use Rattle.slicc_lex.proofs.FoundGaps.{after_slash, found_line, found_block, comment_open, block_inside}
use Rattle.slicc_lex.proofs.front.comment.Goals as goal

pub overflow_add-result : goal.overflow_add-result
overflow_add-result c = omega (arith, c.line_len.ensures, prefix_len-le-length is_in_line c.in-Some.text.now, ap length c.in-Some.ensures)

pub returns-then-second-eq47 : goal.returns-then-second-eq47
returns-then-second-eq47 c =
    subst (λ b. Stands b Gap (2 + c.line_len.result)) (after_slash c.args.behind.now c.in-Some.second.now c.in-Some.text.now 47 c.in-Some.ensures c.if-second-eq47.true)
    (found_line c.in-Some.text.now c.line_len.result c.line_len.ensures)

pub overflow_add-result-in-Some-close_len : goal.overflow_add-result-in-Some-close_len
overflow_add-result-in-Some-close_len c = omega (arith, block_inside c.in-Some.text.now c.in-Some-close_len.size (sym c.in-Some-close_len.ensures), ap length c.in-Some.ensures)

pub returns-in-Some-close_len : goal.returns-in-Some-close_len
returns-in-Some-close_len c =
    subst (λ b. Stands b Gap (2 + c.in-Some-close_len.size)) (after_slash c.args.behind.now c.in-Some.second.now c.in-Some.text.now 42 c.in-Some.ensures c.if-second-ne42.false)
    (found_block c.in-Some.text.now c.in-Some-close_len.size (sym c.in-Some-close_len.ensures))

pub returns-in-None : goal.returns-in-None
returns-in-None c =
    inr (subst (λ b. IsFault c.args.at b (OpenComment c.args.at)) (after_slash c.args.behind.now c.in-Some.second.now c.in-Some.text.now 42 c.in-Some.ensures c.if-second-ne42.false)
    (comment_open c.args.at c.in-Some.text.now (sym c.in-None.ensures)))
