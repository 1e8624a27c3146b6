-- The outstanding requests that a list has, each under its line.
use Rattle.std.specs.Prelude.{ℕ, List, map}
use Rattle.std.specs.FinMap as finite
use Rattle.std.specs.Ordering.{nat_cmp}
use Rattle.ruby_value.specs.declared.asked.Asked.{Asked}

abbrev pub entry_of : Asked → ℕ × Asked
entry_of a = (a.line, a)

abbrev pub outstanding_of : List Asked → finite.FinMap nat_cmp Asked
outstanding_of items = finite.from_entries (map entry_of items)
