-- The cache with another list in place of the set that a line number belongs to. The other sets and the number
-- of ways are as they were.
use Rattle.std.specs.Prelude.{ℕ, List, length, ◌%◌, slice_set}
use Rattle.ruby_value.specs.Cache.{Cache, Line}

abbrev pub with_set : Cache → ℕ → List Line → Cache
with_set cache line lines = record cache { sets = slice_set cache.sets (line % length cache.sets) lines }
