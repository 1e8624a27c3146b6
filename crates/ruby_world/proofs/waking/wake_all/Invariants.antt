use Rattle.std.proofs.Common.{◌≡◌}
use Rattle.ruby_world.specs.Prelude.{HasAddedAlone, AreWorlds, IsBetween}
use Rattle.ruby_world.specs.Prelude.{InWorld}
use Rattle.ruby_world.proofs.Views.{unfinished_in}
use Rattle.ruby_world.proofs.waking.wake_all.Given as goal

abbrev pub invariant-controllers : goal.invariant-controllers
invariant-controllers g l = record {
  alone : HasAddedAlone g.D.Driver.drive l.fn.world l.world;
  between : InWorld g.D.Driver.drive l.world (IsBetween g.D.Driver.drive l.world);
  now : AreWorlds g.D.Driver.drive (λ w after. after.now ≡ w.now) l.fn.world l.world;
}

abbrev pub decreases-controllers : goal.decreases-controllers
decreases-controllers g l = unfinished_in g.D.Driver.drive l.world
