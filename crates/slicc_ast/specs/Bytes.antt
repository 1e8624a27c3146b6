-- The kinds of bytes that SLICC's tokens are made of, in this project's profile, which is ASCII.
use Rattle.std.specs.Prelude.{ℕ, Bool, ◌==◌, ◌&&◌, ◌||◌, nat_le}

abbrev pub is_between : ℕ → ℕ → ℕ → Bool
is_between low high c = nat_le low c && nat_le c high

-- a space, tab, carriage return or line feed
abbrev pub is_blank : ℕ → Bool
is_blank c = (c == 32) || (c == 9) || (c == 13) || (c == 10)

-- what a name begins with: a letter or an underscore
abbrev pub is_letter : ℕ → Bool
is_letter c = is_between 65 90 c || is_between 97 122 c || (c == 95)

-- what a name goes on with: these and the digits
abbrev pub is_word_byte : ℕ → Bool
is_word_byte c = is_letter c || is_between 48 57 c

-- what may stand in a string, its own quote aside
abbrev pub is_printable : ℕ → Bool
is_printable c = is_between 32 126 c
