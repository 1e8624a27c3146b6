use Rattle.std.proofs.Common.{◌≡◌, ◌++◌, map, take}
use Rattle.ruby_symbols.specs.declared.types.FieldSymbol.{FieldSymbol}
use Rattle.action_code.specs.Prelude.{bare}
use Rattle.emit_statements.proofs.own.kinds_added.Given as goal

abbrev pub invariant-loop-f : goal.invariant-loop-f
invariant-loop-f l = l.kinds ≡ l.initial.kinds ++ map (λ (f : FieldSymbol). bare f.kind) (take l.f-index l.fields)
