use Rattle.std.proofs.Common.{length}
use Rattle.compiled_protocol.proofs.room.+any_short.Given as goal

abbrev pub decreases-any_short : goal.decreases-any_short
decreases-any_short g l = length l.numbers.now
