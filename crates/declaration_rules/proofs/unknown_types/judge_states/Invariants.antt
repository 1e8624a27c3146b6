use Rattle.std.proofs.Common.{◌≡◌, take, map}
use Rattle.slicc_plan.specs.Prelude.{first_after, state_use}
use Rattle.declared_types.specs.Prelude.{scope_at}
use Rattle.declaration_rules.specs.Prelude.{unknown_uses}
use Rattle.declaration_rules.proofs.unknown_types.judge_states.Given as goal

abbrev pub invariant-loop-s : goal.invariant-loop-s
invariant-loop-s l = l.first ≡ first_after l.initial.first (unknown_uses l.scopes.trees.now (scope_at l.scopes.trees.now l.number) (map state_use (take l.s-index l.states)))
