-- The lines of the set that a line number belongs to, whose place is the line number modulo the number of sets.
-- That is gem5's rule. A cache without sets would have an empty one here; there is no such cache.
use Rattle.std.specs.Prelude.{ℕ, List, [], length, ◌%◌, slice_get, unwrap_or}
use Rattle.ruby_value.specs.Cache.{Cache, Line}

abbrev pub set_of : Cache → ℕ → List Line
set_of cache line = unwrap_or (slice_get cache.sets (line % length cache.sets)) []
