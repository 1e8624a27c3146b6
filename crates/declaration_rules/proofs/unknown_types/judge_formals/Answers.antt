use Rattle.slicc_plan.specs.Prelude.{formal_use, unknown_use}
use Rattle.declared_types.specs.Prelude.{scope_at}
use Rattle.declaration_rules.proofs.Steps.{one_more}
use Rattle.declaration_rules.proofs.unknown_types.judge_formals.Goals as goal

pub loop-f-preserved : goal.loop-f-preserved
loop-f-preserved c =
    one_more (unknown_use c.args.scopes.now.trees.now (scope_at c.args.scopes.now.trees.now c.args.number)) (formal_use c.args.is_of_prototype)
    c.args.formals.now c.loop-f.f-index c.f-item.result c.args.first c.loop-f.first c.judge_use-first.result c.loop-f-test.true c.f-item.is c.judge_use-first.ensures c.loop-f.invariant
