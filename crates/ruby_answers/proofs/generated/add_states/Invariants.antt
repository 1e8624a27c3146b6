use Rattle.std.proofs.Common.{◌≡◌, ◌++◌}
use Rattle.ruby_answers.specs.Prelude.{states_text}
use Rattle.ruby_answers.proofs.generated.add_states.Given as goal

abbrev pub invariant-loop-i : goal.invariant-loop-i
invariant-loop-i l = l.out ≡ l.initial.out ++ states_text l.i
