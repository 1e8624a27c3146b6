-- A set of controllers with one more: the smaller numbers of the list, then this one, then the greater ones.
-- So a list that ascends still does, and a number that was there isn't there twice.
-- This is this project's way to write the set that gem5's NetDest keeps as bits.
use Rattle.std.specs.Prelude.{ℕ, List, nat_lt}
use Rattle.ruby_value.specs.Inserted.{inserted}

abbrev pub with_member : List ℕ → ℕ → List ℕ
with_member members m = inserted nat_lt members m
