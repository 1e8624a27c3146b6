use Rattle.std.proofs.Common.{◌≡◌, ◌+◌, ◌%◌, ◌++◌, flat_map}
use Rattle.std.specs.List.{range_with_len}
use Rattle.ruby_answers.specs.Prelude.{transition_text}
use Rattle.ruby_answers.proofs.generated.add_transitions.Given as goal

abbrev pub invariant-loop-i : goal.invariant-loop-i
invariant-loop-i l = l.out ≡ l.initial.out ++ flat_map (λ i. transition_text i ((i + 1) % l.count)) (range_with_len 0 l.i)
