use Rattle.std.proofs.Common.{ℕ, ◌<◌, ◌≤◌, length, get_or}
use Rattle.ruby_value.specs.declared.asked.Answer.{Answer}
use Rattle.sequencer.proofs.order.place_of_answer.Given as goal

-- each answer from the place on is of a greater line
abbrev pub invariant-loop-at : goal.invariant-loop-at
invariant-loop-at l =
    (l.at ≤ length l.answers.items) ×
    ((k : ℕ) (d : Answer) → l.at ≤ k → k < length l.answers.items → l.a.asked.line < (get_or l.answers.items k d).asked.line)

abbrev pub decreases-loop-at : goal.decreases-loop-at
decreases-loop-at l = l.at
