use Rattle.std.proofs.Common.{◌-◌, ◌<◌, ◌≤◌, length, subst, arith}
use Rattle.std.proofs.lemmas.List.{get_or_read}
use Rattle.ruby_value.specs.declared.asked.Answer.{Answer}
use Rattle.sequencer.proofs.Answering.{answer-place, answer-placed}
use Rattle.sequencer.proofs.order.place_of_answer.Goals as goal

pub returns-else-index-a-clause-place : goal.returns-else-index-a-clause-place
returns-else-index-a-clause-place c =
    let xs = c.args.answers.now.items in
    let within : c.loop-at.at - 1 < length c.args.answers.now.items = omega (arith, c.loop-at-test.true, c.loop-at.invariant.0) in
    answer-placed xs c.args.a.now c.loop-at.at
    (answer-place xs c.args.a.now.asked.line c.loop-at.at c.requires c.loop-at.invariant.0 c.loop-at.invariant.1
    (λ d positive.
    subst (λ (o : Answer). o.asked.line ≤ c.args.a.now.asked.line)
    (get_or_read xs (c.loop-at.at - 1) c.index.result.now within c.index.ensures d) c.if-index-a.false))

pub returns-after-loop-at-clause-place : goal.returns-after-loop-at-clause-place
returns-after-loop-at-clause-place c =
    let xs = c.args.answers.now.items in
    answer-placed xs c.args.a.now c.loop-at.at
    (answer-place xs c.args.a.now.asked.line c.loop-at.at c.requires c.loop-at.invariant.0 c.loop-at.invariant.1
    (λ d positive. absurd (omega (arith, c.loop-at-test.false))))
