use Rattle.std.proofs.Common.{◌+◌}
use Rattle.statement_walk.proofs.functions.+call_function+fn-call_function-calls.Given as goal

abbrev pub decreases-calls : goal.decreases-calls
decreases-calls g l = l.inner + l.inner + 1

abbrev pub decreases-call_function : goal.decreases-call_function
decreases-call_function g l = l.depth + l.depth
