-- What is printed of a call: a line `== CALL` with the call as the list has it, the text of its answer, and a line `status N`.
-- A text whose last line isn't ended is ended, and a line says so. The forms are this project's own.
use Rattle.std.specs.Prelude.{ℕ, ◌-◌, ◌==◌, Option, None, Some, List, [], ◌∷◌, ◌++◌, codes, length, slice_get, if◌then◌else◌}
use Rattle.std.specs.Fmt.{decimal}

-- what comes after a text, by its last byte
abbrev pub ending_after : Option ℕ → List ℕ
ending_after None = []
ending_after (Some last) = if last == 10 then [] else 10 ∷ codes "without a line feed" ++ 10 ∷ []

abbrev pub ending_of : List ℕ → List ℕ
ending_of text = ending_after (slice_get text (length text - 1))

abbrev pub status_line : ℕ → List ℕ
status_line status = codes "status " ++ decimal status ++ 10 ∷ []

abbrev pub row_of : List ℕ → List ℕ → ℕ → List ℕ
row_of call text status = codes "== " ++ call ++ 10 ∷ [] ++ text ++ ending_of text ++ status_line status
