-- What a piece of a text can be by its first byte.
use Rattle.std.specs.Prelude.{◌≡◌, ◌==◌, ◌||◌, ℕ, Bool, cond, List, [], ◌∷◌}
use Rattle.slicc_ast.specs.Prelude.{is_blank, is_letter}
use Rattle.slicc_lex.specs.declared.class.Class.{Class}
use Rattle.slicc_lex.specs.declared.class.Class.TheVariants.{Blank, Letter, Digit, Quote, Slash, Other}
use Rattle.slicc_lex.specs.Numbers.{is_digit}

abbrev pub is_quote : ℕ → Bool
is_quote c = (c == 34) || (c == 39)

abbrev pub class_of : ℕ → Class
class_of c =
    cond (is_blank c) Blank (cond (is_letter c) Letter (cond (is_digit c) Digit (cond (is_quote c) Quote
    (cond (c == 47) Slash Other))))

-- the bytes begin with a byte of this class
abbrev pub BeginsWith : Class → List ℕ → Type 0
BeginsWith class [] = ⊥
BeginsWith class (c ∷ cs) = class_of c ≡ class
