use Rattle.parts.specs.Held.{IsHand, IsSameRun}
use Rattle.parts.proofs.worlds.workers.follow.Given as goal

abbrev pub invariant-steps : goal.invariant-steps
invariant-steps g l = record {
  run : IsSameRun l.fn.world l.world;
  first : IsHand g.D.Driver.drive l.world 0 l.hands.first;
  second : IsHand g.D.Driver.drive l.world 1 l.hands.second;
}
