use Rattle.std.proofs.Common.{◌≡◌, take, flat_map}
use Rattle.slicc_plan.specs.Prelude.{first_after}
use Rattle.declared_types.specs.Prelude.{scope_at}
use Rattle.body_rules.specs.Prelude.{wrong_state_of}
use Rattle.body_rules.proofs.missing.judge_states.Given as goal

abbrev pub invariant-loop-s : goal.invariant-loop-s
invariant-loop-s l = l.first ≡ first_after l.initial.first (flat_map (wrong_state_of l.scopes.trees.now (scope_at l.scopes.trees.now l.number)) (take l.s-index l.states))
