-- How digits are read one by one.
use Rattle.std.specs.Prelude.{◌+◌, ◌*◌, ℕ, Bool, Option, None, Some, cond, List, [], ◌∷◌}
use Rattle.slicc_plan.specs.Prelude.{digit_value, digits_number, is_digit, is_hexadecimal}
use Rattle.declaration_rules.specs.declared.numbers.Base.{Base}
use Rattle.declaration_rules.specs.declared.numbers.Base.TheVariants.{Decimal, Hexadecimal}

abbrev pub base_of : Base → ℕ
base_of Decimal = 10
base_of Hexadecimal = 16

abbrev pub is_right_in : Base → ℕ → Bool
is_right_in Decimal c = is_digit c
is_right_in Hexadecimal c = is_hexadecimal c

-- the number that digits stand for behind those of another
abbrev pub read_from : Base → ℕ → List ℕ → Option ℕ
read_from base n [] = Some n
read_from base n (c ∷ cs) = cond (is_right_in base c) (read_from base (base_of base * n + digit_value c) cs) None

abbrev pub digits_in : Base → List ℕ → Option ℕ
digits_in base digits = digits_number (is_right_in base) (base_of base) digits
