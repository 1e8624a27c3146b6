use Rattle.declared_types.specs.Prelude.{declaration_of, scope_at}
use Rattle.declaration_rules.proofs.Steps.{one_more}
use Rattle.declaration_rules.proofs.rule.first_in_scope.Goals as goal

pub loop-d-preserved : goal.loop-d-preserved
loop-d-preserved g c =
    one_more (g.R.DeclarationRule.broken_of c.args.scopes.now.trees.now (scope_at c.args.scopes.now.trees.now c.args.number)) declaration_of
    c.declarations-d-items.result.now c.loop-d.d-index c.d-item.result c.args.first c.loop-d.first c.judge-first.result c.loop-d-test.true c.d-item.is c.judge-first.ensures c.loop-d.invariant
