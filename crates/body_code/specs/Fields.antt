-- Fields in code: of a line through a reference on the stack, whose kind tells the structure, and of messages that are open or kept. The
-- fields of a message that is kept are in locals that follow one another.
use Rattle.std.specs.Prelude.{ℕ, ◌+◌, Option, List, [], ◌∷◌, option_and_then, slice_get}
use Rattle.std.specs.Option.{option_map}
use Rattle.ruby_value.specs.declared.kind.Kind.{Kind}
use Rattle.ruby_symbols.specs.declared.types.FieldSymbol.{FieldSymbol}
use Rattle.ruby_symbols.specs.declared.types.StructureSymbol.{StructureSymbol}
use Rattle.ruby_symbols.specs.declared.symbols.Symbols.{Symbols}
use Rattle.ruby_symbols.specs.Prelude.{field_named}
use Rattle.action_code.specs.declared.instr.Instr.{Instr}
use Rattle.action_code.specs.declared.instr.Instr.TheVariants as instr
use Rattle.action_code.specs.Prelude.{bare, structure_of}
use Rattle.body_meaning.specs.Prelude.{Reading}
use Rattle.body_code.specs.declared.left.FieldAt.{FieldAt}
use Rattle.body_code.specs.declared.left.Left.{Left}
use Rattle.body_code.specs.declared.left.Left.TheVariants as left
use Rattle.body_code.specs.Pieces.{Piece, giving, known, or_none}

abbrev pub field_numbered : List FieldSymbol → ℕ → Option FieldAt
field_numbered fields k = option_map (λ (f : FieldSymbol). record { number = k; kind = bare f.kind }) (slice_get fields k)

abbrev pub field_among : List FieldSymbol → List ℕ → Option FieldAt
field_among fields text = option_and_then (field_numbered fields) (field_named fields text)

-- of the structure of this number
abbrev pub field_in : Symbols → ℕ → List ℕ → Option FieldAt
field_in symbols structure text =
    option_and_then (λ (t : StructureSymbol). field_among t.fields text) (slice_get symbols.structures structure)

-- of the structure that references of this kind are to
abbrev pub field_through : Symbols → Kind → List ℕ → Option FieldAt
field_through symbols k text = option_and_then (λ structure. field_in symbols structure text) (structure_of k)

-- a field, by the instruction that gives the one of its number
abbrev pub field_by : (ℕ → Instr) → Option FieldAt → Piece
field_by get f = or_none (option_map (λ (found : FieldAt). giving found.kind (get found.number ∷ [])) f)

-- of what was left
abbrev pub field_read : Reading → Left → List ℕ → Piece
field_read s (left.Value k) text = field_by instr.Get (field_through s.symbols k text)
field_read s (left.Inner structure) text = field_by instr.Infield (field_in s.symbols structure text)
field_read s (left.Made structure) text = field_by instr.Outfield (field_in s.symbols structure text)
field_read s (left.Kept structure first) text = field_by (λ k. instr.Load (first + k)) (field_in s.symbols structure text)
field_read s _ text = known left.Nothing
