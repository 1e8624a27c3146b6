use Rattle.std.proofs.Common.{length}
use Rattle.scan_walk.proofs.actions.+actions_done.Given as goal

abbrev pub decreases-actions_done : goal.decreases-actions_done
decreases-actions_done g l = length l.actions.now
