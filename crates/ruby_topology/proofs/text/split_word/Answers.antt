use Rattle.std.proofs.Common.{◌≡◌, ◌∙◌, arith, true, sym, get_or}
use Rattle.ruby_topology.specs.Prelude.{is_blank}
use Rattle.ruby_topology.proofs.Texts.{some_before, word_cut, words_none}
use Rattle.ruby_topology.proofs.text.split_word.Goals as goal

pub returns-then-is_blank-clause-word : goal.returns-then-is_blank-clause-word
returns-then-is_blank-clause-word c =
    let text = c.args.text.now in
    let i = c.loop-i.i in
    let here : is_blank (get_or text i 0) ≡ true = sym c.is_blank.ensures ∙ c.if-is_blank.true in
    word_cut text i (some_before text i c.requires.first here) (omega arith) c.loop-i.invariant here

pub returns-clause-word : goal.returns-clause-word
returns-clause-word c = words_none c.args.text.now c.requires.some (λ k lt. c.loop-i.invariant k (omega arith))
