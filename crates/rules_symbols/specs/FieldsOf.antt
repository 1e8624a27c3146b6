-- The fields of a structure as a body sees them, and as its symbol has them.
use Rattle.std.specs.Prelude.{ℕ, ◌≡◌, Some, List, slice_get}
use Rattle.ruby_symbols.specs.declared.types.FieldSymbol.{FieldSymbol}
use Rattle.ruby_symbols.specs.declared.types.StructureSymbol.{StructureSymbol}
use Rattle.ruby_symbols.specs.Types.{field_named}
use Rattle.slicc_ast.specs.declared.tree.item.Tree.{Tree}
use Rattle.slicc_ast.specs.declared.tree.machine.Machine.{Machine}
use Rattle.slicc_plan.specs.ExpressionTypes.{field_in}
use Rattle.slicc_plan.specs.Meanings.{Meaning}
use Rattle.slicc_plan.specs.Types.{KnownType}
use Rattle.rules_symbols.specs.Fitting.{IsOfKind}

-- what a body of the machine finds under a name in the type stands under that name in the symbol, with its kind
abbrev pub HasFieldsOf : List Tree → Machine → KnownType → StructureSymbol → Type 0
HasFieldsOf trees m t s =
    (text : List ℕ) (meaning : Meaning) → field_in trees m t text ≡ Some meaning
    → (n : ℕ) × (f : FieldSymbol) × (field_named s.fields text ≡ Some n) × (slice_get s.fields n ≡ Some f) × IsOfKind trees m f.kind meaning
