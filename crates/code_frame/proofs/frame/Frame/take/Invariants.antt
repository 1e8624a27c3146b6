use Rattle.std.proofs.Common.{◌≡◌, drop, take}
use Rattle.code_frame.specs.Prelude.{SameRest}
use Rattle.code_frame.proofs.frame.Frame.take.Given as goal

abbrev pub invariant-loop-i : goal.invariant-loop-i
invariant-loop-i l = (l.values.items ≡ take l._i l.initial.self.stack) × (l.self.stack ≡ drop l._i l.initial.self.stack) × SameRest l.initial.self l.self
