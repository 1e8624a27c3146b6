use Rattle.emit_statements.proofs.TriggerSteps.{tested_parts}
use Rattle.emit_statements.proofs.triggers.event_tested.Goals as goal

pub returns : goal.returns
returns c = tested_parts _ _ _ _ c.args.code.now c.event_test.new.code c.trigger_where.new.code c.trigger_where.result c.in_ok-event_test.ensures c.trigger_where.ensures
