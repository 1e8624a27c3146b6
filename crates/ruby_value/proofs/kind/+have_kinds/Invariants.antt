use Rattle.std.proofs.Common.{length}
use Rattle.ruby_value.proofs.kind.+have_kinds.Given as goal

abbrev pub decreases-have_kinds : goal.decreases-have_kinds
decreases-have_kinds l = length l.kinds.now
