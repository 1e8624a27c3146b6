use Rattle.std.proofs.Common.{◌≡◌, take, flat_map}
use Rattle.slicc_ast.specs.declared.tree.machine.Transition.{Transition}
use Rattle.slicc_plan.specs.Prelude.{transition_in, unanswered_at, first_after}
use Rattle.machine_rules.proofs.next_rules.judge_declarations.Given as goal

abbrev pub invariant-loop-d : goal.invariant-loop-d
invariant-loop-d l = l.found ≡ first_after l.fn.first (flat_map (λ (t : Transition). unanswered_at l.number t.next) (flat_map transition_in (take l.d-index l.ds)))
