use Rattle.std.proofs.Common.{refl}
use Rattle.parts.proofs.Leaving.{hand-stays}
use Rattle.parts.proofs.worlds.workers.go.Goals as goal

pub returns-then-step-clause-first : goal.returns-then-step-clause-first
returns-then-step-clause-first g c =
    hand-stays g.D.Driver.drive g.D.Driver.least c.args.world.now c.perform.new.world 1 0 c.args.hands.first refl c.in_ok-second.ensures.leaves
    c.requires.first

pub returns-then-step-clause-run : goal.returns-then-step-clause-run
returns-then-step-clause-run g c = let leaves = c.in_ok-second.ensures.leaves in leaves.run

pub returns-clause-second : goal.returns-clause-second
returns-clause-second g c =
    hand-stays g.D.Driver.drive g.D.Driver.least c.args.world.now c.perform-2.new.world 0 1 c.args.hands.second refl c.in_ok-first.ensures.leaves
    c.requires.second

pub returns-clause-run : goal.returns-clause-run
returns-clause-run g c = let leaves = c.in_ok-first.ensures.leaves in leaves.run
