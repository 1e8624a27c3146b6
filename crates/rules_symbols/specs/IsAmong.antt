-- What is in a list.
use Rattle.std.specs.Prelude.{ℕ, ◌≡◌, Some, List, slice_get}

abbrev pub IsAmong : {X : Type 0} → List X → X → Type 0
IsAmong xs x = (k : ℕ) × (slice_get xs k ≡ Some x)
