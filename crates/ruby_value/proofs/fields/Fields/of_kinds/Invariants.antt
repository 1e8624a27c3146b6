use Rattle.std.proofs.Common.{◌≡◌, map, take}
use Rattle.ruby_value.specs.Prelude.{default_value}
use Rattle.ruby_value.proofs.fields.Fields.of_kinds.Given as goal

abbrev pub invariant-loop-kind : goal.invariant-loop-kind
invariant-loop-kind l = l.values.items ≡ map default_value (take l.kind-index l.kinds)
