use Rattle.std.proofs.Common.{◌++◌, ap, ◌∙◌}
use Rattle.slicc_plan.specs.Buffers.{listed}
use Rattle.ruby_answers.specs.Prelude.{answered}
use Rattle.ruby_answers.proofs.RowsBelow.{one_more}
use Rattle.ruby_answers.proofs.tables.add_rows.Goals as goal

pub loop-event-preserved : goal.loop-event-preserved
loop-event-preserved c =
    let event = c.loop-event.event in
    let tables = c.args.tables.now in
    c.in_ok-add_row.ensures
    ∙ ap (λ o. c.loop-event.found ++ listed o) c.row.ensures
    ∙ ap (λ l. l ++ answered tables c.args.number c.args.state event) c.loop-event.invariant
    ∙ one_more (answered tables c.args.number c.args.state) c.args.found.now event
