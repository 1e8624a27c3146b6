use Rattle.std.proofs.Common.{◌≡◌, take, flat_map}
use Rattle.slicc_plan.specs.Prelude.{first_after}
use Rattle.declared_types.specs.Prelude.{declarations_of, scope_at}
use Rattle.body_rules.specs.Prelude.{wrong_states}
use Rattle.body_rules.proofs.missing.judge_permissions.Given as goal

abbrev pub invariant-loop-d : goal.invariant-loop-d
invariant-loop-d l =
    l.first ≡ first_after l.initial.first (flat_map (wrong_states l.scopes.trees.now (scope_at l.scopes.trees.now l.number)) (declarations_of (take l.d-index l.d-items)))
