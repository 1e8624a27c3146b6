-- The line and the column of a byte, both from 1, and columns in bytes. A line ends with its line feed.
use Rattle.std.specs.Prelude.{◌+◌, ◌==◌, ℕ, List, take, count_by}
use Rattle.std.specs.List.{suffix_len}
use Rattle.slicc_lex.specs.Pieces.{is_in_line}

-- one more than the line feeds before it
abbrev pub line_of : List ℕ → ℕ → ℕ
line_of bytes offset = count_by (λ c. c == 10) (take offset bytes) + 1

-- one more than the bytes of its line before it
abbrev pub column_of : List ℕ → ℕ → ℕ
column_of bytes offset = suffix_len is_in_line (take offset bytes) + 1
