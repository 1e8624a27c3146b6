use Rattle.slicc_plan.specs.Prelude.{member_uses, unknown_use}
use Rattle.declared_types.specs.Prelude.{scope_at}
use Rattle.declaration_rules.proofs.Steps.{one_more_nested}
use Rattle.declaration_rules.proofs.unknown_types.judge_members.Goals as goal

pub loop-m-preserved : goal.loop-m-preserved
loop-m-preserved c =
    one_more_nested (unknown_use c.args.scopes.now.trees.now (scope_at c.args.scopes.now.trees.now c.args.number)) member_uses
    c.args.members.now c.loop-m.m-index c.m-item.result c.args.first c.loop-m.first c.judge_member-first.result c.loop-m-test.true c.m-item.is c.judge_member-first.ensures c.loop-m.invariant
