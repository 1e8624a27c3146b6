-- Numbers by places. A number has 16 bits: what stands at place 65,536 of a list or beyond isn't found, and the limits of a
-- protocol keep all its lists shorter.
use Rattle.std.specs.Prelude.{ℕ, ◌==◌, Bool, false, Option, None, Some, List, cond, nat_lt, option_and_then, position}

abbrev pub short_number : ℕ → Option ℕ
short_number n = cond (nat_lt n 65536) (Some n) None

-- the number of the first of these that passes the test
abbrev pub number_of : {X : Type 0} → (X → Bool) → List X → Option ℕ
number_of is_it xs = option_and_then short_number (position is_it xs)

-- both are there, and are one number
abbrev pub is_number : Option ℕ → Option ℕ → Bool
is_number None other = false
is_number (Some n) None = false
is_number (Some n) (Some k) = n == k
