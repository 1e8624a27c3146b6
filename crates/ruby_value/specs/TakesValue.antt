-- Whether the field at a place, counted from 0, takes a value: the field is there, and the value that it has is
-- of the same kind. It doesn't ask what kind was declared, since a field keeps its kind from the start.
use Rattle.std.specs.Prelude.{ℕ, List, IsTrue, IsSomeAnd, slice_get}
use Rattle.ruby_value.specs.declared.value.Value.{Value}
use Rattle.ruby_value.specs.SameKind.{same_kind}

abbrev pub TakesValue : List Value → ℕ → Value → Type 0
TakesValue fields place v = IsSomeAnd (slice_get fields place) (λ held. IsTrue (same_kind held v))
