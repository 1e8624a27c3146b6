use Rattle.std.proofs.Common.{◌≡◌, map, take}
use Rattle.ruby_symbols.specs.declared.types.FieldSymbol.{FieldSymbol}
use Rattle.body_walk.proofs.frames.initial_fields.Given as goal

abbrev pub invariant-loop-f : goal.invariant-loop-f
invariant-loop-f l = l.values.items ≡ map (λ (f : FieldSymbol). f.initial) (take l.f-index l.fields)
