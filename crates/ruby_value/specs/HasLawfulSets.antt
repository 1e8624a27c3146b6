-- Each set of a cache has at most as many lines as ways, its own ones, none of them twice. That a cache has no
-- more lines than places is what its size means in gem5.
use Rattle.std.specs.Prelude.{ℕ, ◌≤◌, [], length, slice_index_or}
use Rattle.ruby_value.specs.AreLinesOf.{AreLinesOf}
use Rattle.ruby_value.specs.Cache.{Cache}

unfoldable pub HasLawfulSets : Cache → Type 0
HasLawfulSets cache = (place : ℕ) → (length (slice_index_or cache.sets place []) ≤ cache.ways) × AreLinesOf (length cache.sets) place (slice_index_or cache.sets place [])
