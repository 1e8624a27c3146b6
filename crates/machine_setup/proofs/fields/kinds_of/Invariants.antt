use Rattle.std.proofs.Common.{◌≡◌, map, take}
use Rattle.ruby_symbols.specs.declared.types.FieldSymbol.{FieldSymbol}
use Rattle.machine_setup.proofs.fields.kinds_of.Given as goal

abbrev pub invariant-loop-f : goal.invariant-loop-f
invariant-loop-f l = l.kinds ≡ map (λ (f : FieldSymbol). f.kind) (take l.f-index l.fields)
