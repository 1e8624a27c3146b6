-- The default member of a kind of enumerations, which no comparison of kinds looks at.
use Rattle.std.specs.Prelude.{ℕ}
use Rattle.ruby_value.specs.declared.kind.Kind.{Kind}
use Rattle.ruby_value.specs.declared.kind.Kind.TheVariants as kind

abbrev pub default_number : Kind → ℕ
default_number (kind.Enum enumeration default) = default
default_number _ = 0
