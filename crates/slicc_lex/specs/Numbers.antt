-- The numbers of SLICC: decimal digits, or `0x` and hexadecimal ones, which may be letters of either case.
use Rattle.std.specs.Prelude.{◌≡◌, ◌⊎◌, ◌+◌, ◌-◌, ◌*◌, ◌++◌, ◌||◌, ℕ, Bool, cond, nat_le, IsTrue, List, [], ◌∷◌, fold, codes}
use Rattle.std.specs.List.{list_all}
use Rattle.slicc_ast.specs.Prelude.{is_between}

abbrev pub is_digit : ℕ → Bool
is_digit c = is_between 48 57 c

abbrev pub is_hexadecimal : ℕ → Bool
is_hexadecimal c = is_digit c || is_between 65 70 c || is_between 97 102 c

-- what a digit counts: `0` to `9`, `A` to `F`, `a` to `f`
abbrev pub digit_value : ℕ → ℕ
digit_value c = cond (nat_le c 57) (c - 48) (cond (nat_le c 70) (c - 55) (c - 87))

-- the number that digits stand for in a base
abbrev pub number_of : ℕ → List ℕ → ℕ
number_of base digits = fold (λ n c. base * n + digit_value c) 0 digits

abbrev pub IsDecimal : List ℕ → ℕ → Type 0
IsDecimal [] n = ⊥
IsDecimal (c ∷ cs) n = IsTrue (list_all is_digit (c ∷ cs)) × (n ≡ number_of 10 (c ∷ cs))

abbrev pub AreHexadecimal : List ℕ → ℕ → Type 0
AreHexadecimal [] n = ⊥
AreHexadecimal (c ∷ cs) n = IsTrue (list_all is_hexadecimal (c ∷ cs)) × (n ≡ number_of 16 (c ∷ cs))

-- these bytes are a way to write the number
abbrev pub IsNumeral : List ℕ → ℕ → Type 0
IsNumeral written n = IsDecimal written n ⊎ ((digits : List ℕ) × (written ≡ codes "0x" ++ digits) × AreHexadecimal digits n)
