use Rattle.slicc_plan.specs.Prelude.{state_use, unknown_use}
use Rattle.declared_types.specs.Prelude.{scope_at}
use Rattle.declaration_rules.proofs.Steps.{one_more}
use Rattle.declaration_rules.proofs.unknown_types.judge_states.Goals as goal

pub loop-s-preserved : goal.loop-s-preserved
loop-s-preserved c =
    one_more (unknown_use c.args.scopes.now.trees.now (scope_at c.args.scopes.now.trees.now c.args.number)) state_use
    c.args.states.now c.loop-s.s-index c.s-item.result c.args.first c.loop-s.first c.judge_use-first.result c.loop-s-test.true c.s-item.is c.judge_use-first.ensures c.loop-s.invariant
