use Rattle.std.proofs.Common.{◌≤◌, vec_len}
use Rattle.cache_array.proofs.directory.write_all.Given as goal

abbrev pub invariant-loop-line : goal.invariant-loop-line
invariant-loop-line l = vec_len l.lines ≤ l.memory.room

abbrev pub decreases-loop-line : goal.decreases-loop-line
decreases-loop-line l = vec_len l.lines
