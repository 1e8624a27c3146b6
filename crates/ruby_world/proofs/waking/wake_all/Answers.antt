use Rattle.ruby_world.proofs.Views.{alone-none, alone-then, is-next, now-none, rests, same-now}
use Rattle.ruby_world.proofs.waking.wake_all.Goals as goal

pub controllers-init : goal.controllers-init
controllers-init g c = record {
  alone = alone-none g.D.Driver.drive c.args.world.now;
  between = c.requires.between;
  now = now-none g.D.Driver.drive c.args.world.now;
}

pub wake-requires-clause-next : goal.wake-requires-clause-next
wake-requires-clause-next g c κs within = is-next g.D.Driver.drive c.controllers.world c.in-Some.c c.controllers.invariant.between c.in-Some.ensures

pub controllers-preserved : goal.controllers-preserved
controllers-preserved g c =
    let run = c.law.ensures.run in
    record {
      alone =
          alone-then g.D.Driver.drive c.args.world.now c.controllers.world c.wake.new.world c.controllers.invariant.alone c.in_ok-wake.ensures.alone;
      between = c.in_ok-wake.ensures.between;
      now =
          same-now g.D.Driver.drive c.args.world.now c.controllers.world c.wake.new.world run.0 run.1 c.controllers.invariant.now
          c.in_ok-wake.ensures.finishes;
    }

pub returns-clause-rested : goal.returns-clause-rested
returns-clause-rested g c = rests g.D.Driver.drive c.controllers.world c.controllers.invariant.between c.in_default.ensures
