-- A finite map from lines after values were put under lines one after another, from the last of the list on, so that of two under
-- one line the first counts.
use Rattle.std.specs.Prelude.{ℕ, List, [], ◌∷◌}
use Rattle.std.specs.Ordering.{nat_cmp}
use Rattle.std.specs.FinMap as map

abbrev pub with_all : {X : Type 0} → map.FinMap nat_cmp X → List (ℕ × X) → map.FinMap nat_cmp X
with_all held [] = held
with_all held (entry ∷ rest) = map.insert (with_all held rest) entry.0 entry.1
