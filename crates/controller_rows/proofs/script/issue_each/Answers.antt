use Rattle.std.proofs.Common.{arith}
use Rattle.std.proofs.lemmas.List.{drop_more}
use Rattle.controller_rows.proofs.Issuing.{goes-on}
use Rattle.controller_rows.proofs.script.issue_each.Goals as goal

pub loop-i-preserved : goal.loop-i-preserved
loop-i-preserved g c =
    record {
      on = goes-on c.args.now (g.S.Seats.view c.loop-i.seats).kept (g.S.Seats.view c.issue_one.new.seats).kept _ c.args.requests.now c.loop-i.i-index _
          (drop_more c.args.requests.now c.loop-i.i-index _ c.loop-i-test.true) c.issue_one.ensures.seats c.loop-i.invariant.on;
      room = omega (arith, c.loop-i.invariant.room, c.issue_one.ensures.room);
    }
