-- The tables of calls as code has them: rows of a name and a number, of which the first of a name counts.
use Rattle.std.specs.Prelude.{ℕ, cond, Option, None, Some, List, [], ◌∷◌}
use Rattle.std.specs.Str.{bytes_eq}

abbrev pub number_among : List (List ℕ × ℕ) → List ℕ → Option ℕ
number_among [] text = None
number_among (row ∷ rows) text = cond (bytes_eq text row.0) (Some row.1) (number_among rows text)
