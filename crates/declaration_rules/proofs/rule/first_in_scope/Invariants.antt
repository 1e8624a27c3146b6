use Rattle.std.proofs.Common.{◌≡◌, take, flat_map}
use Rattle.slicc_plan.specs.Prelude.{first_after}
use Rattle.declared_types.specs.Prelude.{declarations_of, scope_at}
use Rattle.declaration_rules.proofs.rule.first_in_scope.Given as goal

abbrev pub invariant-loop-d : goal.invariant-loop-d
invariant-loop-d g l =
    l.first ≡ first_after l.initial.first (flat_map (g.R.DeclarationRule.broken_of l.scopes.trees.now (scope_at l.scopes.trees.now l.number)) (declarations_of (take l.d-index l.d-items)))
