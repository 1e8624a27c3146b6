-- What holds of every cache that a program can have: there are a set and a way, and its sets are lawful. So a
-- line is in the cache at most once.
use Rattle.std.specs.Prelude.{◌<◌, length}
use Rattle.ruby_value.specs.Cache.{Cache}
use Rattle.ruby_value.specs.HasLawfulSets.{HasLawfulSets}

pub record IsCache (cache : Cache) : Type 0 where
  pub some_ways : 0 < cache.ways
  pub some_sets : 0 < length cache.sets
  pub lawful_sets : HasLawfulSets cache
