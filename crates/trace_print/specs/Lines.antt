-- A line of text: words that are separated by single spaces, and a line feed. Addresses are `0x` and hexadecimal digits in lower case
-- without leading zeros, and all other numbers are decimal. A dash stands for what isn't known, and for the name that a number would
-- have where it has none. All this is the project's own.
use Rattle.std.specs.Prelude.{ℕ, false, Option, None, Some, List, [], ◌∷◌, ◌++◌, codes, decimal, flat_map, unwrap_or}
use Rattle.std.specs.Fmt.{digits}

-- each word after a space
abbrev pub spaced : List (List ℕ) → List ℕ
spaced words = flat_map (λ word. 32 ∷ word) words

abbrev pub line_of : List (List ℕ) → List ℕ
line_of [] = 10 ∷ []
line_of (word ∷ words) = word ++ (spaced words ++ 10 ∷ [])

abbrev pub hexadecimal : ℕ → List ℕ
hexadecimal n = codes "0x" ++ digits 16 false n

-- a name and a number right after it
abbrev pub numbered : List ℕ → ℕ → List ℕ
numbered name n = name ++ decimal n

-- a place in a file: its name, its line and its column
abbrev pub place : List ℕ → ℕ → ℕ → List ℕ
place file at_line column = file ++ 58 ∷ (decimal at_line ++ 58 ∷ decimal column)

abbrev pub or_dash : Option (List ℕ) → List ℕ
or_dash word = unwrap_or word (codes "-")

-- the word of a number where it is known
abbrev pub known : (ℕ → List ℕ) → Option ℕ → List ℕ
known word None = codes "-"
known word (Some n) = word n
