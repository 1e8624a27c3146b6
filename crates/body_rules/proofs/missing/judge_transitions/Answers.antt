use Rattle.slicc_plan.specs.Prelude.{transition_in}
use Rattle.declaration_rules.proofs.Steps.{one_more_nested}
use Rattle.body_rules.specs.Prelude.{missing_with}
use Rattle.body_rules.proofs.missing.judge_transitions.Goals as goal

pub loop-d-preserved : goal.loop-d-preserved
loop-d-preserved c =
    one_more_nested (missing_with c.args.own.now) transition_in c.args.ds.now c.loop-d.d-index c.d-item.result
    c.args.first c.loop-d.first c.judge_declaration-first.result c.loop-d-test.true c.d-item.is c.judge_declaration-first.ensures c.loop-d.invariant
