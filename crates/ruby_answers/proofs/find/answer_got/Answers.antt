use Rattle.std.proofs.Common.{◌≤◌, ◌∙◌, List, ℕ, ap, arith, length, rules, sym}
use Rattle.ruby_outside.specs.declared.library.Got.TheVariants as got
use Rattle.ruby_answers.proofs.Answering.{bytes_right}
use Rattle.ruby_answers.proofs.find.answer_got.Goals as goal

pub returns-in-Bytes-clause-right : goal.returns-in-Bytes-clause-right
returns-in-Bytes-clause-right g c =
    let short : length c.as_slice.result.now ≤ 1048576 = first_of (search rules, grind arith) in
    bytes_right c.args.options c.args.plan c.args.got c.as_slice.result.now c.said_run.result c.ran.result
    (c.in-Bytes.is ∙ ap (λ (bs : List ℕ). got.Bytes bs) (sym c.as_slice.ensures)) short c.said_run.ensures.ok c.said_run.ensures.err c.ran.ensures.answer
