use Rattle.std.proofs.Common.{length}
use Rattle.scan_walk.proofs.ports.+ports_tried.Given as goal

abbrev pub decreases-ports_tried : goal.decreases-ports_tried
decreases-ports_tried g l = length l.ports.now
