-- Whether a kind is one of references: to entries or to TBEs of a structure. No field that SLICC declares is one.
use Rattle.std.specs.Prelude.{Bool, true, false}
use Rattle.ruby_value.specs.declared.kind.Kind.{Kind}
use Rattle.ruby_value.specs.declared.kind.Kind.TheVariants as kind

abbrev pub is_reference : Kind → Bool
is_reference (kind.Entry structure) = true
is_reference (kind.Tbe structure) = true
is_reference _ = false
