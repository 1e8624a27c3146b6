use Rattle.declared_types.specs.Prelude.{declaration_of, scope_at}
use Rattle.declaration_rules.proofs.Steps.{one_more}
use Rattle.body_rules.specs.Prelude.{wrong_states}
use Rattle.body_rules.proofs.missing.judge_permissions.Goals as goal

pub loop-d-preserved : goal.loop-d-preserved
loop-d-preserved c =
    one_more (wrong_states c.args.scopes.now.trees.now (scope_at c.args.scopes.now.trees.now c.args.number)) declaration_of
    c.declarations-d-items.result.now c.loop-d.d-index c.d-item.result c.args.first c.loop-d.first c.judge_declared-first.result c.loop-d-test.true c.d-item.is c.judge_declared-first.ensures c.loop-d.invariant
