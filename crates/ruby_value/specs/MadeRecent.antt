-- A list of lines after one of them was used: it goes to the end, and the others stay in their order. Where the
-- line isn't there the list is as it was. That this is what `setMRU` does is this project's own rule.
use Rattle.std.specs.Prelude.{ℕ, List, ◌++◌}
use Rattle.std.specs.Option.{option_map, option_to_list}
use Rattle.ruby_value.specs.Cache.{Line}
use Rattle.ruby_value.specs.FieldsOf.{fields_of}
use Rattle.ruby_value.specs.WithoutLine.{without_line}

abbrev pub made_recent : List Line → ℕ → List Line
made_recent lines line = without_line lines line ++ option_to_list (option_map (λ fields. (line, fields)) (fields_of lines line))
