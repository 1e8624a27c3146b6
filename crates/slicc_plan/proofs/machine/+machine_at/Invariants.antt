use Rattle.std.proofs.Common.{length}
use Rattle.slicc_plan.proofs.machine.+machine_at.Given as goal

abbrev pub decreases-machine_at : goal.decreases-machine_at
decreases-machine_at l = length l.trees.now
