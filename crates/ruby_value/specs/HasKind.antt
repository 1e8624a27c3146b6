-- Whether a value is one of a kind: the same sort of value, and for a member of an enumeration the same enumeration.
-- Whether the enumeration has so many members isn't asked, and the default member that a kind names doesn't matter. A
-- reference is to an entry or to a TBE, and this doesn't say of which structure, since the value itself doesn't show that.
use Rattle.std.specs.Prelude.{Bool, true, false, ◌==◌}
use Rattle.ruby_value.specs.declared.kind.Kind.{Kind}
use Rattle.ruby_value.specs.declared.kind.Kind.TheVariants as kind
use Rattle.ruby_value.specs.declared.value.Value.{Value}
use Rattle.ruby_value.specs.declared.value.Value.TheVariants as value

abbrev pub has_kind : Kind → Value → Bool
has_kind kind.Bool (value.Bool b) = true
has_kind kind.Int (value.Int i) = true
has_kind (kind.Enum a default) (value.Enum b member) = a == b
has_kind kind.Addr (value.Addr address) = true
has_kind kind.Machine (value.Machine controller) = true
has_kind kind.Dest (value.Dest members) = true
has_kind kind.Block (value.Block block) = true
has_kind (kind.Entry structure) (value.Entry line) = true
has_kind (kind.Tbe structure) (value.Tbe line) = true
has_kind _ _ = false
