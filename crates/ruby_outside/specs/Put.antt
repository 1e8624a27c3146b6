-- How a whole piece goes to a sink: by writes, each of what is left of it. It is whole once nothing is left; it is cut off
-- at the first write that fails or takes nothing, and no write follows that one. What one write is, the sink says; how
-- many bytes each takes is free. The rule is this project's own.
use Rattle.std.specs.Prelude.{ℕ, ◌<◌, Bool, true, false, List, [], length, drop}
use Rattle.ruby_outside.specs.declared.sink.Wrote.{Wrote}
use Rattle.ruby_outside.specs.declared.sink.Wrote.TheVariants.{Took, Failed}

-- the sink before, the piece, whether it was written whole, and the sink after
pub data IsPut {S : Type 0} (writes : S → List ℕ → Wrote → S → Type 0) : S → List ℕ → Bool → S → Type 0 where
  all_taken : (before : S) → IsPut writes before [] true before
  went_on :
      (before middle after : S) (piece : List ℕ) (count : ℕ) (whole : Bool)
      → 0 < count → writes before piece (Took count) middle
      → IsPut writes middle (drop count piece) whole after
      → IsPut writes before piece whole after
  got_stuck : (before after : S) (piece : List ℕ) → 0 < length piece → writes before piece (Took 0) after → IsPut writes before piece false after
  met_fault : (before after : S) (piece : List ℕ) → 0 < length piece → writes before piece Failed after → IsPut writes before piece false after
