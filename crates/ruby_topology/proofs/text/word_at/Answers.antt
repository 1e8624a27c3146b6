use Rattle.std.proofs.Common.{◌≡◌, ◌∙◌, ◌+◌, ap, [], drop, get_or, arith}
use Rattle.std.proofs.lemmas.List.{drop-drop, get_or-drop}
use Rattle.ruby_topology.specs.Prelude.{words_of}
use Rattle.ruby_topology.proofs.text.word_at.Goals as goal

pub loop-i-preserved : goal.loop-i-preserved
loop-i-preserved c = (
  c.after_word-rest.ensures.words ∙ ap (drop 1) c.loop-i.invariant.0 ∙ drop-drop 1 c.loop-i._i (words_of c.args.text.now),
  c.after_word-rest.ensures.first,
)

pub returns : goal.returns
returns c =
    let words = words_of c.args.text.now in
    let place = c.args.place in
    let here : c.loop-i._i ≡ place = omega arith in
    let same : place + 0 ≡ place = omega arith in
    c.first_word.ensures ∙ ap (λ ws. get_or ws 0 []) c.loop-i.invariant.0
    ∙ ap (λ n. get_or (drop n words) 0 []) here
    ∙ get_or-drop place words 0 [] ∙ ap (λ n. get_or words n []) same
