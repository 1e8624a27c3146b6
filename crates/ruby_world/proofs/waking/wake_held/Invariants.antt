use Rattle.std.proofs.Common.{◌-◌}
use Rattle.ruby_world.specs.Prelude.{HasAddedAlone, AreWorlds, InWorld, IsOnlyHeld, Stays}
use Rattle.ruby_world.specs.Prelude.{Holds}
use Rattle.ruby_world.proofs.waking.wake_held.Given as goal

abbrev pub invariant-scans : goal.invariant-scans
invariant-scans g l = record {
  alone : HasAddedAlone g.D.Driver.drive l.fn.world l.world;
  holds : Holds g.D.Driver.drive l.world 0 l.held;
  only : InWorld g.D.Driver.drive l.world (IsOnlyHeld l.held.controller);
  stays : AreWorlds g.D.Driver.drive Stays l.fn.world l.world;
}

abbrev pub decreases-scans : goal.decreases-scans
decreases-scans g l = l.held.limit - l.held.fired
