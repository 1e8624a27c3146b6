use Rattle.slicc_plan.specs.FieldTypes.{field_of}
use Rattle.declared_types.specs.Prelude.{scope_at}
use Rattle.declaration_rules.proofs.Steps.{one_more_nested}
use Rattle.declaration_rules.proofs.field_rules.first_in_members.Goals as goal

pub loop-m-preserved : goal.loop-m-preserved
loop-m-preserved g c =
    one_more_nested (g.R.FieldRule.broken_at c.args.scopes.now.trees.now) (field_of (scope_at c.args.scopes.now.trees.now c.args.number))
    c.args.members.now c.loop-m.m-index c.m-item.result c.args.first c.loop-m.first c.first_in_member-first.result c.loop-m-test.true c.m-item.is c.first_in_member-first.ensures c.loop-m.invariant
