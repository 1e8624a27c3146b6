-- What a name is in code. What the body has of its own is in a local, or is a message that is open; a parameter or an object of a value
-- type is a field of line 0 of the table after the machine's others; one whose values are references is a reference to nothing.
use Rattle.std.specs.Prelude.{ℕ, pos, Option, None, Some, List, [], ◌∷◌, codes, cond, find, length, slice_get}
use Rattle.std.specs.Option.{option_map}
use Rattle.std.specs.Str.{bytes_eq}
use Rattle.ruby_value.specs.declared.kind.Kind.TheVariants as kind
use Rattle.ruby_value.specs.declared.value.Value.{Value}
use Rattle.ruby_value.specs.declared.value.Value.TheVariants as value
use Rattle.ruby_symbols.specs.declared.names.Named.{Named}
use Rattle.ruby_symbols.specs.declared.names.Named.TheVariants as named
use Rattle.ruby_symbols.specs.declared.types.FieldSymbol.{FieldSymbol}
use Rattle.ruby_symbols.specs.Prelude.{stands_for}
use Rattle.action_code.specs.declared.instr.Instr.TheVariants as instr
use Rattle.body_meaning.specs.Prelude.{Reading, member_value, port_at}
use Rattle.body_code.specs.declared.left.Home.{Home}
use Rattle.body_code.specs.declared.left.Home.TheVariants as home
use Rattle.body_code.specs.declared.left.Left.TheVariants as left
use Rattle.body_code.specs.declared.left.NameAt.{NameAt}
use Rattle.body_code.specs.Kinds.{kind_in, null}
use Rattle.body_code.specs.Pieces.{Piece, giving, known, or_none}

-- Names of a body's own.

abbrev pub home_of : List ℕ → List NameAt → Option Home
home_of text names = option_map (λ (n : NameAt). n.home) (find (λ (n : NameAt). bytes_eq n.name text) names)

abbrev pub home_read : Home → Piece
home_read (home.Local slot k) = giving k (instr.Load slot ∷ [])
home_read (home.Inner structure) = known (left.Inner structure)
home_read (home.Made structure) = known (left.Made structure)
home_read (home.Kept structure first) = known (left.Kept structure first)

-- Names of the machine's.

abbrev pub actor_operation : ℕ
actor_operation = 58

abbrev pub value_read : Reading → ℕ → FieldSymbol → Piece
value_read s k v =
    giving (kind_in s v.kind)
    (instr.Push (value.Entry (Some (record { table = length s.machine.tables; line = 0 }))) 0 ∷ instr.Get k ∷ [])

abbrev pub reference_read : Reading → FieldSymbol → Piece
reference_read s v = let k = kind_in s v.kind in giving k (null k ∷ [])

abbrev pub port_read : Option ℕ → Piece
port_read buffer = or_none (option_map (λ b. known (left.Port b)) buffer)

abbrev pub read_everywhere : List ℕ → Piece
read_everywhere text =
    cond (bytes_eq text (codes "machineID")) (giving kind.Machine (instr.Op actor_operation 0 ∷ []))
    (cond (bytes_eq text (codes "recycle_latency")) (giving kind.Int (instr.Push (value.Int (pos 10)) 0 ∷ [])) (known left.Nothing))

abbrev pub declared_read : Reading → List ℕ → Option Named → Piece
declared_read s text None = read_everywhere text
declared_read s text (Some (named.Table k)) = known (left.Table k)
declared_read s text (Some (named.Value k)) = or_none (option_map (value_read s k) (slice_get s.machine.values k))
declared_read s text (Some (named.Reference k)) = or_none (option_map (reference_read s) (slice_get s.machine.references k))
declared_read s text (Some (named.Buffer k)) = known left.Nothing
declared_read s text (Some (named.InPort k)) = port_read (port_at s.machine.in_ports k)
declared_read s text (Some (named.OutPort k)) = port_read (port_at s.machine.out_ports k)
declared_read s text (Some named.Sequencer) = known left.Sequencer

abbrev pub read_or : Reading → List ℕ → Option Home → Piece
read_or s text None = declared_read s text (stands_for s.machine text)
read_or s text (Some h) = home_read h

-- where the body has these names of its own
abbrev pub name_read : Reading → List NameAt → List ℕ → Piece
name_read s names text = read_or s text (home_of text names)

-- Members of enumerations.

abbrev pub member_pushed : Reading → List ℕ → List ℕ → Piece
member_pushed s owner member = or_none (option_map pushed (member_value s owner member))
  where
    pushed : Value → Piece
    pushed (value.Enum number k) = giving (kind.Enum number 0) (instr.Push (value.Enum number k) 0 ∷ [])
    pushed v = known left.Nothing
