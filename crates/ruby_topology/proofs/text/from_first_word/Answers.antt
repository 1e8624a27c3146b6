use Rattle.std.proofs.Common.{arith}
use Rattle.ruby_topology.proofs.Texts.{all_blanks, words_from}
use Rattle.ruby_topology.proofs.text.from_first_word.Goals as goal

pub returns-then-not-is_blank-clause-words : goal.returns-then-not-is_blank-clause-words
returns-then-not-is_blank-clause-words c =
    words_from c.args.text.now c.loop-i.i (omega arith) c.loop-i.invariant

pub returns-clause-words : goal.returns-clause-words
returns-clause-words c = all_blanks c.args.text.now (λ k lt. c.loop-i.invariant k (omega arith))
