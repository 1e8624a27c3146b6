use Rattle.std.proofs.Common.{◌≡◌, ◌++◌, length}
use Rattle.code_frame.specs.Prelude.{SameRest}
use Rattle.code_frame.proofs.frame.Frame.push_all.Given as goal

abbrev pub invariant-loop-v : goal.invariant-loop-v
invariant-loop-v l = (l.values.items ++ l.self.stack ≡ l.initial.values.items ++ l.initial.self.stack) × SameRest l.initial.self l.self

abbrev pub decreases-loop-v : goal.decreases-loop-v
decreases-loop-v l = length l.values.items
