use Rattle.std.proofs.Common.{◌-◌}
use Rattle.body_code.specs.Statements.{event_chosen}
use Rattle.emit_expressions.proofs.Adding.{not_added}
use Rattle.emit_statements.proofs.TriggerSteps.{events_last, events_more}
use Rattle.emit_statements.proofs.triggers.event_chosen.Goals as goal

pub returns-in_err-number : goal.returns-in_err-number
returns-in_err-number c = not_added _ _ _ _ _ c.from_residual.ensures.1

pub returns-in_err-event_tested : goal.returns-in_err-event_tested
returns-in_err-event_tested c = not_added _ _ _ _ _ c.from_residual-in_err-event_tested.ensures.1

pub loop-k-init : goal.loop-k-init
loop-k-init c = λ new h. h

pub loop-k-preserved : goal.loop-k-preserved
loop-k-preserved c =
    events_more c.args.events c.args.slot c.args.count c.loop-k.k c.in_ok-number.number (event_chosen c.args.events c.args.slot (c.args.count - 1) 1) c.args.code.now c.loop-k.code c.event_tested.new.code
    c.loop-k-test.true c.in_ok-number.ensures c.in_ok-event_tested.ensures c.loop-k.invariant

pub returns : goal.returns
returns c =
    events_last c.args.events c.args.slot c.args.count c.loop-k.k (event_chosen c.args.events c.args.slot (c.args.count - 1) 1) c.args.code.now c.loop-k.code c.push.new.self c.push.result
    c.loop-k-test.false c.push.ensures.ok c.loop-k.invariant
