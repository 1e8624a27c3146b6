use Rattle.declaration_rules.proofs.Steps.{one_step}
use Rattle.machine_table.specs.Prelude.{found_by}
use Rattle.body_rules.specs.Prelude.{missing_by}
use Rattle.body_rules.proofs.missing.judge_several.Goals as goal

pub loop-name-preserved : goal.loop-name-preserved
loop-name-preserved c =
    one_step (missing_by (found_by c.args.numbers.now)) c.args.names.now c.loop-name.name-index c.name-item.result
    c.args.first c.loop-name.first c.judge_name-first.result c.loop-name-test.true c.name-item.is c.judge_name-first.ensures c.loop-name.invariant
