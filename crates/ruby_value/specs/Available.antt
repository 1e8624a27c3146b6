-- Whether a line has a place: it is in the cache, or its set has fewer lines than ways. This is what gem5's
-- `cacheAvail` answers.
use Rattle.std.specs.Prelude.{ℕ, Bool, ◌||◌, is_some, length, nat_lt}
use Rattle.ruby_value.specs.Cache.{Cache}
use Rattle.ruby_value.specs.FieldsOf.{fields_of}
use Rattle.ruby_value.specs.SetOf.{set_of}

abbrev pub available : Cache → ℕ → Bool
available cache line = is_some (fields_of (set_of cache line) line) || nat_lt (length (set_of cache line)) cache.ways
