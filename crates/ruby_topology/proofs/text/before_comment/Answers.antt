use Rattle.std.proofs.Common.{◌∙◌, arith, length, sym}
use Rattle.std.proofs.lemmas.List.{take_all}
use Rattle.ruby_topology.proofs.Texts.{comment_at}
use Rattle.ruby_topology.proofs.text.before_comment.Goals as goal

pub returns-then-b-eq35 : goal.returns-then-b-eq35
returns-then-b-eq35 c =
    sym (comment_at c.args.line.now c.loop-i.i (omega arith) c.loop-i.invariant (λ lt. c.if-b-eq35.true))

pub returns : goal.returns
returns c =
    let line = c.args.line.now in
    sym (comment_at line (length line) (omega arith) (λ k lt. c.loop-i.invariant k (omega arith)) (λ lt. absurd (omega arith))
    ∙ take_all (length line) line (omega arith))
