use Rattle.ruby_world.specs.Prelude.{HasAddedAlone, InWorld, IsNobodyHeld}
use Rattle.ruby_world.proofs.Views.{left_in}
use Rattle.ruby_world.proofs.alone.go_on.Given as goal

abbrev pub invariant-cycles : goal.invariant-cycles
invariant-cycles g l = record {
  alone : HasAddedAlone g.D.Driver.drive l.fn.world l.world;
  nobody : InWorld g.D.Driver.drive l.world (IsNobodyHeld g.D.Driver.drive l.world);
}

abbrev pub decreases-cycles : goal.decreases-cycles
decreases-cycles g l = left_in g.D.Driver.drive l.world
