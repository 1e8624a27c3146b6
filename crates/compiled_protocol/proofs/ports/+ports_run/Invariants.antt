use Rattle.std.proofs.Common.{length}
use Rattle.compiled_protocol.proofs.ports.+ports_run.Given as goal

abbrev pub decreases-ports_run : goal.decreases-ports_run
decreases-ports_run g l = length l.bodies.now
