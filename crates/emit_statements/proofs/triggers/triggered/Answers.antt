use Rattle.body_meaning.specs.Prelude.{reading}
use Rattle.emit_statements.proofs.Following.{line_of}
use Rattle.emit_statements.proofs.TriggerSteps.{triggered_is}
use Rattle.emit_statements.proofs.triggers.triggered.Goals as goal

pub returns-in-len1-up : goal.returns-in-len1-up
returns-in-len1-up c = λ ending.
    line_of _ _ c.triggered_by.result c.args.code.now c.triggered_by.new.code c.triggered_by.new.own
    (triggered_is (reading c.args.s) c.args.n.now ending c.args.given.now c.args.own.now c.e-item.result c.event_of-event.result c.in-len1-up.len_at_least c.e-item.is c.event_of-event.ensures)
    (c.triggered_by.ensures ending)
