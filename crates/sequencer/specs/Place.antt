-- A place in a list of requests: those before it have lesser lines, and those from there on no lesser ones.
use Rattle.std.specs.Prelude.{ℕ, ◌≤◌, ◌<◌, List, length, slice_index_or}
use Rattle.ruby_value.specs.declared.asked.Asked.{Asked}

pub record IsPlaceOf (requests : List Asked) (line at : ℕ) : Type 0 where
  pub within : at ≤ length requests
  pub below : (k : ℕ) (d : Asked) → k < at → (slice_index_or requests k d).line < line
  pub above : (k : ℕ) (d : Asked) → at ≤ k → k < length requests → line ≤ (slice_index_or requests k d).line
