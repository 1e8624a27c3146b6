-- What a parameter or an object of a type of values is among a machine's symbols: a value, or a reference to nothing where lines have
-- the type; and what a port is there.
use Rattle.std.specs.Prelude.{ℕ, ◌≡◌, Option, Some, List, slice_get}
use Rattle.ruby_value.specs.declared.kind.Kind.{Kind}
use Rattle.ruby_symbols.specs.declared.machine.BufferSymbol.{BufferSymbol}
use Rattle.ruby_symbols.specs.declared.machine.MachineSymbols.{MachineSymbols}
use Rattle.ruby_symbols.specs.declared.machine.PortSymbol.{PortSymbol}
use Rattle.ruby_symbols.specs.declared.names.Named.{Named}
use Rattle.ruby_symbols.specs.declared.names.Named.TheVariants.{Value, Reference}
use Rattle.ruby_symbols.specs.declared.types.FieldSymbol.{FieldSymbol}
use Rattle.ruby_symbols.specs.Names.{stands_for}
use Rattle.slicc_plan.specs.Types.{KnownType, structured}

-- the name is that of a value of this kind
abbrev pub IsValueOf : MachineSymbols → List ℕ → Kind → Type 0
IsValueOf m text k =
    (n : ℕ) × (v : FieldSymbol) × (stands_for m text ≡ Some (Value n)) × (slice_get m.values n ≡ Some v) × (v.kind ≡ k)

-- of a reference to nothing of this kind
abbrev pub IsReferenceOf : MachineSymbols → List ℕ → Kind → Type 0
IsReferenceOf m text k =
    (n : ℕ) × (v : FieldSymbol) × (stands_for m text ≡ Some (Reference n)) × (slice_get m.references n ≡ Some v) × (v.kind ≡ k)

-- of what is declared with this type
abbrev pub IsNamedValue : MachineSymbols → List ℕ → KnownType → Kind → Type 0
IsNamedValue m text (structured scope s) k = IsReferenceOf m text k
IsNamedValue m text t k = IsValueOf m text k

-- the name is that of a port on a buffer whose messages are of the structure of this number
abbrev pub IsPortOf : MachineSymbols → List ℕ → (ℕ → Named) → List PortSymbol → Option ℕ → Type 0
IsPortOf m text port ports structure =
    (n : ℕ) × (p : PortSymbol) × (b : BufferSymbol) × (stands_for m text ≡ Some (port n)) × (slice_get ports n ≡ Some p)
    × (slice_get m.buffers p.buffer ≡ Some b) × (b.message ≡ structure)
