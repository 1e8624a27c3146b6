use Rattle.std.proofs.Common.{rules, arith}
use Rattle.std.proofs.lemmas.Grind.{common_steps}
use Rattle.pair_table.proofs.RowsOfPlaces.{rows_at-step}
use Rattle.pair_table.proofs.rows.table_rows.Goals as goal

pub loop-place-preserved : goal.loop-place-preserved
loop-place-preserved c =
    let step = rows_at-step c.args.ws.now c.args.events c.args.firsts.now c.loop-place.place 0 c.loop-place-test.true in
    cc (c.in_ok-push.ensures.ok, c.in_ok-row.ensures, c.loop-place.invariant)
