use Rattle.std.proofs.Common.{length}
use Rattle.action_code.proofs.rules.+operands_fit.Given as goal

abbrev pub decreases-operands_fit : goal.decreases-operands_fit
decreases-operands_fit l = length l.takes.now
