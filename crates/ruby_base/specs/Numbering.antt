-- Names in the order in which they came, each once and numbered by its place from 0. Two names are one where their bytes are.
use Rattle.std.specs.Prelude.{ℕ, Bool, Option, List, [], ◌∷◌, ◌++◌, cond, position}
use Rattle.std.specs.List.{IsDistinct, list_any}
use Rattle.std.specs.Str.{bytes_eq}

abbrev pub is_name : List ℕ → List ℕ → Bool
is_name name n = bytes_eq n name

-- the number of a name among these, where it is one of them
abbrev pub number_among : List (List ℕ) → List ℕ → Option ℕ
number_among names name = position (is_name name) names

-- the names with this one, which goes last where it isn't among them
abbrev pub with_name : List (List ℕ) → List ℕ → List (List ℕ)
with_name names name = cond (list_any (is_name name) names) names (names ++ name ∷ [])

-- no name is there twice
abbrev pub AreDistinct : List (List ℕ) → Type 0
AreDistinct names = IsDistinct bytes_eq names
