use Rattle.std.proofs.Common.{ap, sym, ◌∙◌}
use Rattle.slicc_plan.specs.Buffers.{listed}
use Rattle.pair_table.specs.Prelude.{rows_at, answer_at}
use Rattle.pair_table.proofs.OneRow.{row_in_table}
use Rattle.pair_table.proofs.making.table_of.Goals as goal

pub returns : goal.returns
returns c =
    let firsts = c.in_ok-firsts.firsts.items in
    λ state event.
    row_in_table c.args.states c.args.events c.requires.alone.0 c.args.ws.now firsts c.requires.among c.in_ok-firsts.ensures.length c.in_ok-firsts.ensures.firsts c.requires.alone.1 state event
    ∙ ap (λ fs. listed (answer_at c.args.events (rows_at c.args.ws.now c.args.events 0 fs) state event)) (sym c.deref.ensures.value)
    ∙ ap (λ rows. listed (answer_at c.args.events rows state event)) (sym c.in_ok-rows.ensures)
