use Rattle.std.proofs.Common.{refl}
use Rattle.parts.proofs.Leaving.{hand-stays, run-then, same-run}
use Rattle.parts.proofs.worlds.workers.follow.Goals as goal

pub steps-init : goal.steps-init
steps-init g c = record { run = same-run c.args.world.now; first = tt; second = tt }

pub steps-preserved : goal.steps-preserved
steps-preserved g c = record {
  run = run-then c.args.world.now c.steps.world c.go.new.world c.steps.invariant.run c.in_ok-hands.ensures.run;
  first = c.in_ok-hands.ensures.first;
  second = c.in_ok-hands.ensures.second;
}

pub perform-requires-2-clause-holds : goal.perform-requires-2-clause-holds
perform-requires-2-clause-holds g c κs within =
    hand-stays g.D.Driver.drive g.D.Driver.least c.steps.world c.perform.new.world 0 1 c.steps.hands.second refl c.in_ok-perform.ensures.leaves
    c.steps.invariant.second
