-- Whether two kinds are equal: the same sort of values, of the same enumeration or the same structure.
-- The default member of an enumeration doesn't count, since it is what a new value has and not what a value may be.
use Rattle.std.specs.Prelude.{Bool, true, false, ◌==◌}
use Rattle.ruby_value.specs.declared.kind.Kind.{Kind}
use Rattle.ruby_value.specs.declared.kind.Kind.TheVariants.{Bool as BoolKind, Int, Enum, Addr, Machine, Dest, Block, Entry, Tbe}

abbrev pub equal_kinds : Kind → Kind → Bool
equal_kinds BoolKind BoolKind = true
equal_kinds Int Int = true
equal_kinds (Enum a m) (Enum b n) = a == b
equal_kinds Addr Addr = true
equal_kinds Machine Machine = true
equal_kinds Dest Dest = true
equal_kinds Block Block = true
equal_kinds (Entry a) (Entry b) = a == b
equal_kinds (Tbe a) (Tbe b) = a == b
equal_kinds _ _ = false
