use Rattle.std.proofs.Common.{length}
use Rattle.ruby_world.proofs.opening.+machine_from.Given as goal

abbrev pub decreases-machine_from : goal.decreases-machine_from
decreases-machine_from l = length l.counts.now
