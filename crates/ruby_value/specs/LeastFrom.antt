-- The least member of an ascending list that is at least a number: the first of those that aren't below it, if any is.
use Rattle.std.specs.Prelude.{ℕ, List, Option, not, filter, nat_lt, slice_get}

abbrev pub least_from : List ℕ → ℕ → Option ℕ
least_from members m = slice_get (filter (λ o. not (nat_lt o m)) members) 0
