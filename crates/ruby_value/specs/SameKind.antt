-- Whether two values are of one kind: the same sort of value, and for members of enumerations the same one.
-- References to entries are of one kind, and so are references to TBEs, whatever structures they name; that a
-- reference fits its place is told apart before a protocol runs.
use Rattle.std.specs.Prelude.{Bool, true, false, ◌==◌}
use Rattle.ruby_value.specs.declared.value.Value.{Value}
use Rattle.ruby_value.specs.declared.value.Value.TheVariants as value

abbrev pub same_kind : Value → Value → Bool
same_kind (value.Bool a) (value.Bool b) = true
same_kind (value.Int a) (value.Int b) = true
same_kind (value.Enum a m) (value.Enum b n) = a == b
same_kind (value.Addr a) (value.Addr b) = true
same_kind (value.Machine a) (value.Machine b) = true
same_kind (value.Dest a) (value.Dest b) = true
same_kind (value.Block a) (value.Block b) = true
same_kind (value.Entry a) (value.Entry b) = true
same_kind (value.Tbe a) (value.Tbe b) = true
same_kind _ _ = false
