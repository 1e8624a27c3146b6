-- Sums, differences, products and negations of signed numbers of 64 bits, with the fault where one is outside them, comparisons, and
-- the fields of the lines that references name. Nothing wraps, sets of controllers aren't compared, and two references are equal where
-- both are to nothing, so that a comparison with a reference to nothing says whether the other one is to a line: these are this
-- project's own rules.
use Rattle.std.specs.Prelude.{ℕ, ℤ, pos, negsuc, ◌+ℤ◌, ◌-ℤ◌, ◌*ℤ◌, ◌^◌, ◌==◌, ◌&&◌, Bool, true, false, not, is_none, Result, Ok, Err, nat_lt, int_lt, int_le, bytes_eq, if◌then◌else◌}
use Rattle.std.specs.Ordering.{int_eq}
use Rattle.ruby_value.specs.declared.value.Value.{Value}
use Rattle.ruby_value.specs.declared.value.Value.TheVariants as value
use Rattle.acts.specs.declared.body_fault.BodyFault.{BodyFault}
use Rattle.acts.specs.declared.body_fault.BodyFault.TheVariants as own
use Rattle.acts.specs.Prelude.{Get, Set, Acting, ◌>>=◌, act, found}
use Rattle.built_in_acts.specs.Values.{number, reference}

-- a number, if it is one of 64 bits
abbrev pub in_range : ℤ → Result ℤ BodyFault
in_range (pos n) = if nat_lt n (2 ^ 63) then Ok (pos n) else Err own.Overflow
in_range (negsuc n) = if nat_lt n (2 ^ 63) then Ok (negsuc n) else Err own.Overflow

abbrev pub sum : Value → Value → Result ℤ BodyFault
sum a b = in_range (number a +ℤ number b)

abbrev pub difference : Value → Value → Result ℤ BodyFault
difference a b = in_range (number a -ℤ number b)

abbrev pub product : Value → Value → Result ℤ BodyFault
product a b = in_range (number a *ℤ number b)

abbrev pub negation : Value → Result ℤ BodyFault
negation a = in_range (pos 0 -ℤ number a)

abbrev pub is_less : Value → Value → Bool
is_less a b = int_lt (number a) (number b)

abbrev pub is_at_most : Value → Value → Bool
is_at_most a b = int_le (number a) (number b)

-- whether a value is a reference to nothing
abbrev pub is_no_line : Value → Bool
is_no_line (value.Entry r) = is_none r
is_no_line (value.Tbe r) = is_none r
is_no_line _ = false

-- whether two values are equal; two of different sorts, or of a sort that isn't compared, aren't. References are of one sort.
abbrev pub are_equal : Value → Value → Bool
are_equal (value.Bool true) (value.Bool b) = b
are_equal (value.Bool false) (value.Bool b) = not b
are_equal (value.Int a) (value.Int b) = int_eq a b
are_equal (value.Enum d m) (value.Enum e n) = d == e && m == n
are_equal (value.Addr a) (value.Addr b) = a == b
are_equal (value.Machine a) (value.Machine b) = a == b
are_equal (value.Block a) (value.Block b) = bytes_eq a.bytes b.bytes
are_equal (value.Entry r) w = is_none r && is_no_line w
are_equal (value.Tbe r) w = is_none r && is_no_line w
are_equal _ _ = false

-- a field through a reference: the fault is the same whether it is to nothing or to a line that isn't there
unfoldable pub field_of : Value → ℕ → Acting Value
field_of v field = found own.Reference (reference v) >>= (λ r. act (Get r field))

unfoldable pub with_field : Value → ℕ → Value → Acting (Unit {0})
with_field v field new = found own.Reference (reference v) >>= (λ r. act (Set r field new))
