use Rattle.std.proofs.Common.{sym}
use Rattle.ruby_world.proofs.Endings.{none-there}
use Rattle.ruby_world.proofs.world.World.ending.Goals as goal

pub unreachable-requires : goal.unreachable-requires
unreachable-requires g c =
    let run = c.law.ensures.run in
    let none = c.in_default.ensures run.0 run.1 in
    let some = c.requires run.0 run.1 in
    absurd (none-there run.0.verdict none some)

pub returns : goal.returns
returns g c = λ w is. sym (c.in-Some.ensures w is)
