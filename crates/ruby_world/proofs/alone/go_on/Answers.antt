use Rattle.ruby_world.proofs.Views.{alone-none, goes-between, turn-smaller, turns-on}
use Rattle.ruby_world.proofs.alone.go_on.Goals as goal

pub cycles-init : goal.cycles-init
cycles-init g c = record { alone = alone-none g.D.Driver.drive c.args.world.now; nobody = c.requires.nobody }

pub wake_all-requires-clause-between : goal.wake_all-requires-clause-between
wake_all-requires-clause-between g c κs within =
    goes-between g.D.Driver.drive c.cycles.world c.has_ended.result c.has_ended.ensures c.cycles-test.true c.cycles.invariant.nobody

pub cycles-smaller : goal.cycles-smaller
cycles-smaller g c =
    let old = c.cycles.world in
    let mid = c.wake_all.new.world in
    let new = c.turn.new.self in
    let run = c.law.ensures.run in
    let between = c.law-in-cycles.ensures.run in
    let after = c.law-in-cycles-2.ensures.run in
    let first = goes-between g.D.Driver.drive old c.has_ended.result c.has_ended.ensures c.cycles-test.true c.cycles.invariant.nobody run.0 run.1 in
    let rested = c.in_ok-wake_all.ensures.rested between.0 between.1 in
    turn-smaller g.D.Driver.drive old mid new run.0 between.0 after.0 c.in_ok-wake_all.ensures.alone.limits c.in_ok-turn.ensures.added.limits run.1 between.1 after.1
    first.goes_on rested.goes_on (c.in_ok-wake_all.ensures.now run.0 between.0 run.1 between.1) c.in_ok-turn.ensures.added

pub cycles-preserved : goal.cycles-preserved
cycles-preserved g c =
    let between = c.law-in-cycles.ensures.run in
    record {
      alone =
          turns-on g.D.Driver.drive c.args.world.now c.cycles.world c.wake_all.new.world c.turn.new.self between.0 between.1 c.cycles.invariant.alone
          c.in_ok-wake_all.ensures.alone c.in_ok-turn.ensures.added;
      nobody = c.in_ok-turn.ensures.nobody;
    }
