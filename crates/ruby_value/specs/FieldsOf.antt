-- The fields of a line in a list of lines, if the line is there. Where a number stood twice, the first would
-- count; no set has a line twice.
use Rattle.std.specs.Prelude.{ℕ, List, Option, ◌==◌}
use Rattle.std.specs.Map.{lookup}
use Rattle.ruby_value.specs.declared.value.Value.{Value}
use Rattle.ruby_value.specs.Cache.{Line}

abbrev pub fields_of : List Line → ℕ → Option (List Value)
fields_of lines line = lookup (λ l. l == line) lines
