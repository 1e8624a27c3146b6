use Rattle.std.proofs.Common.{length}
use Rattle.scan_walk.proofs.actions.+is_short.Given as goal

abbrev pub decreases-is_short : goal.decreases-is_short
decreases-is_short g l = length l.items.now
