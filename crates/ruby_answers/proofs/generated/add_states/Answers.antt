use Rattle.std.proofs.Common.{◌++◌, ap, ◌∙◌}
use Rattle.ruby_answers.specs.Prelude.{state_text}
use Rattle.ruby_answers.proofs.Steps.{one_more}
use Rattle.ruby_answers.proofs.generated.add_states.Goals as goal

pub loop-i-preserved : goal.loop-i-preserved
loop-i-preserved c =
    c.in_ok-add_state.ensures ∙ ap (λ l. l ++ state_text c.loop-i.i) c.loop-i.invariant ∙ one_more state_text c.args.out.now c.loop-i.i
