-- The lines of a list belong to the set at a place, and none of them comes twice. The set of a line is its number
-- modulo the number of sets, as in gem5.
use Rattle.std.specs.Prelude.{◌≡◌, ℕ, List, [], ◌∷◌, None, ◌%◌}
use Rattle.ruby_value.specs.Cache.{Line}
use Rattle.ruby_value.specs.FieldsOf.{fields_of}

abbrev pub AreLinesOf : ℕ → ℕ → List Line → Type 0
AreLinesOf sets place [] = Unit {0}
AreLinesOf sets place (l ∷ rest) = (l.0 % sets ≡ place) × (fields_of rest l.0 ≡ None) × AreLinesOf sets place rest
