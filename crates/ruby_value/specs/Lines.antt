-- Lines by their numbers. A line has 64 bytes, so the line of a byte address of 64 bits is the address divided by 64. Each number has a
-- line here, below 2 ^ 58, so that whatever is kept under the line of an address is kept under one.
use Rattle.std.specs.Prelude.{ℕ, ◌<◌, ◌^◌, ◌/◌, ◌%◌}

-- how many line numbers there are
abbrev pub line_limit : ℕ
line_limit = 2 ^ 58

abbrev pub IsLine : ℕ → Type 0
IsLine line = line < line_limit

abbrev pub line_of : ℕ → ℕ
line_of address = (address / 64) % line_limit
