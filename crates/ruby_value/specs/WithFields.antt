-- A list of lines in which one of them has other fields. Each line stays at its place, and where the line isn't
-- there the list is as it was.
use Rattle.std.specs.Prelude.{ℕ, List, ◌==◌}
use Rattle.std.specs.Map.{set_value}
use Rattle.ruby_value.specs.declared.value.Value.{Value}
use Rattle.ruby_value.specs.Cache.{Line}

abbrev pub with_fields : List Line → ℕ → List Value → List Line
with_fields lines line fields = set_value (λ l. l == line) lines fields
