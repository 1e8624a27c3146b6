-- A list of lines without one of them. The others stay in their order, and where the line isn't there the list
-- is as it was.
use Rattle.std.specs.Prelude.{ℕ, List, ◌==◌}
use Rattle.std.specs.Map.{remove_entry}
use Rattle.ruby_value.specs.Cache.{Line}

abbrev pub without_line : List Line → ℕ → List Line
without_line lines line = remove_entry (λ l. l == line) lines
