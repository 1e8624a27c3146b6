use Rattle.std.proofs.Common.{length}
use Rattle.body_meaning.proofs.called.+permission_called.Given as goal

abbrev pub decreases-permission_called : goal.decreases-permission_called
decreases-permission_called l = length l.machines.now
