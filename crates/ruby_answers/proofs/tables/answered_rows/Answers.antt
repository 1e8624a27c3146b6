use Rattle.std.proofs.Common.{[], ◌++◌, ap, ◌∙◌}
use Rattle.ruby_answers.specs.Prelude.{answered_in_state}
use Rattle.ruby_answers.proofs.RowsBelow.{one_more}
use Rattle.ruby_answers.proofs.tables.answered_rows.Goals as goal

pub loop-state-preserved : goal.loop-state-preserved
loop-state-preserved c =
    let state = c.loop-state.state in
    let in_state = answered_in_state c.args.tables.now c.args.number c.args.events in
    c.in_ok-add_rows.ensures ∙ ap (λ l. l ++ in_state state) c.loop-state.invariant ∙ one_more in_state [] state
