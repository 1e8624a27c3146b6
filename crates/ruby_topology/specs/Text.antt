-- How the text of a topology is read before anything in it has a meaning: lines, words and numbers. A line feed ends a line, and a
-- last piece without one is a line too where it isn't empty. `#` begins a comment, which goes on to the end of its line. Words
-- are separated by spaces and tabs; all other bytes belong to words. A number is decimal digits, of which any may be leading zeros.
-- This form of a topology is this project's own.
use Rattle.std.specs.Prelude.{ℕ, ◌==◌, ◌+◌, ◌-◌, ◌*◌, ◌||◌, ◌&&◌, Bool, not, nat_le, cond, Option, None, Some, List, [], ◌∷◌, length, fold, filter, take_while}
use Rattle.std.specs.List.{list_all, onto_first, slice_split, slice_index_or}

abbrev pub lines_of : List ℕ → List (List ℕ)
lines_of [] = []
lines_of (b ∷ bs) = cond (b == 10) ([] ∷ lines_of bs) (onto_first b (lines_of bs))

abbrev pub before_comment : List ℕ → List ℕ
before_comment line = take_while (λ b. not (b == 35)) line

abbrev pub is_blank : ℕ → Bool
is_blank b = (b == 32) || (b == 9)

abbrev pub is_some_word : List ℕ → Bool
is_some_word piece = not (length piece == 0)

-- the pieces between blanks that aren't empty
abbrev pub words_of : List ℕ → List (List ℕ)
words_of text = filter is_some_word (slice_split is_blank text)

-- the word at a place counted from 0; where there is none, no bytes
abbrev pub word_at : List (List ℕ) → ℕ → List ℕ
word_at words place = slice_index_or words place []

abbrev pub is_digit : ℕ → Bool
is_digit b = nat_le 48 b && nat_le b 57

abbrev pub value_of : List ℕ → ℕ
value_of digits = fold (λ v b. v * 10 + (b - 48)) 0 digits

-- the least and the greatest that a number may be
abbrev pub Bounds : Type 0
Bounds = ℕ × ℕ

abbrev pub is_number_within : Bounds → List ℕ → Bool
is_number_within bounds word =
    (is_some_word word && list_all is_digit word) && (nat_le bounds.0 (value_of word) && nat_le (value_of word) bounds.1)

-- the number that a word is, or none where it is no number or not within the bounds
abbrev pub number_within : Bounds → List ℕ → Option ℕ
number_within bounds word = cond (is_number_within bounds word) (Some (value_of word)) None
