use Rattle.std.proofs.Common.{◌≡◌, [], All, replicate}
use Rattle.cache_array.specs.Prelude.{HasPlaces, lines_of}
use Rattle.cache_array.proofs.cache.empty_sets.Given as goal

abbrev pub invariant-loop-set : goal.invariant-loop-set
invariant-loop-set l = record {
  empty : lines_of l.empty.items ≡ replicate l._set [];
  places : All (HasPlaces l.ways) l.empty.items;
}
