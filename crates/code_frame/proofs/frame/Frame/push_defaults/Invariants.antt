use Rattle.std.proofs.Common.{◌≡◌, ◌++◌, map, reverse, take}
use Rattle.ruby_value.specs.Prelude.{default_value}
use Rattle.code_frame.specs.Prelude.{SameRest}
use Rattle.code_frame.proofs.frame.Frame.push_defaults.Given as goal

abbrev pub invariant-loop-kind : goal.invariant-loop-kind
invariant-loop-kind l = (l.self.stack ≡ reverse (map default_value (take l.kind-index l.kinds)) ++ l.initial.self.stack) × SameRest l.initial.self l.self
