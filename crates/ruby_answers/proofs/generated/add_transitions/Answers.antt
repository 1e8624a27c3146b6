use Rattle.std.proofs.Common.{ℕ, ◌+◌, ◌%◌, List, ◌++◌, ap, ◌∙◌}
use Rattle.ruby_answers.specs.Prelude.{transition_text}
use Rattle.ruby_answers.proofs.Steps.{one_more}
use Rattle.ruby_answers.proofs.generated.add_transitions.Goals as goal

pub loop-i-preserved : goal.loop-i-preserved
loop-i-preserved c =
    let i = c.loop-i.i in
    let added : ℕ → List ℕ = λ i. transition_text i ((i + 1) % c.args.count) in
    c.in_ok-add_transition.ensures ∙ ap (λ l. l ++ added i) c.loop-i.invariant ∙ one_more added c.args.out.now i
