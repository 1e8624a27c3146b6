-- How the first declaration of a name is found.
use Rattle.std.specs.Prelude.{◌≡◌, ◌++◌, ℕ, cond, option_and_then, List, [], ◌∷◌}
use Rattle.std.specs.List.{list_any, slice_get}
use Rattle.ruby_base.specs.Prelude.{is_name, number_among}

-- The names are numbered, and these are the numbers of their first declarations: each name is found by them as it is among the
-- names of all declarations.
abbrev pub IsIndexed : List (List ℕ) → List ℕ → List (List ℕ) → Type 0
IsIndexed names firsts all =
    (text : List ℕ) → option_and_then (λ n. slice_get firsts n) (number_among names text) ≡ number_among all text

-- the numbers of the first declarations, when one more declaration with this name and number follows
abbrev pub with_first : List (List ℕ) → List ℕ → List ℕ → ℕ → List ℕ
with_first names firsts text number = cond (list_any (is_name text) names) firsts (firsts ++ number ∷ [])
