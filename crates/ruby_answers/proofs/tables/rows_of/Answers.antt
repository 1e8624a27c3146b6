use Rattle.std.proofs.Common.{◌∙◌}
use Rattle.ruby_answers.proofs.RowsBelow.{answered_rows}
use Rattle.ruby_answers.proofs.tables.rows_of.Goals as goal

pub returns : goal.returns
returns c =
    c.in_ok-rows.ensures
    ∙ answered_rows c.args.tables.now c.args.number c.state_count-states.result c.event_count-events.result c.args.m.now c.state_count-states.ensures c.event_count-events.ensures c.requires.rows
