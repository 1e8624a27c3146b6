use Rattle.std.proofs.Common.{◌≡◌, take, flat_map}
use Rattle.slicc_plan.specs.Prelude.{wide_scopes, first_after}
use Rattle.declaration_rules.specs.Prelude.{broken_in}
use Rattle.declaration_rules.proofs.rule.first_in_scopes.Given as goal

abbrev pub invariant-loop-number : goal.invariant-loop-number
invariant-loop-number g l = l.first ≡ first_after l.initial.first (flat_map (broken_in g.R.DeclarationRule.broken_of l.scopes.trees.now) (take l.number (wide_scopes l.scopes.trees.now)))
