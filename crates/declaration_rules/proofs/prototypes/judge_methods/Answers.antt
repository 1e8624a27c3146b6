use Rattle.slicc_plan.specs.Prelude.{machine_names, unknown_method}
use Rattle.declaration_rules.proofs.Steps.{one_step}
use Rattle.declaration_rules.proofs.prototypes.judge_methods.Goals as goal

pub loop-m-preserved : goal.loop-m-preserved
loop-m-preserved c =
    one_step (unknown_method (machine_names c.args.scopes.now.trees.now))
    c.args.members.now c.loop-m.m-index c.m-item.result c.args.first c.loop-m.first c.judge_method-first.result c.loop-m-test.true c.m-item.is c.judge_method-first.ensures c.loop-m.invariant
