-- The attributes of a declaration. Of several with one name the first counts. A value is a word, which may be written as a
-- name or as a string, or a number, which may be written as one or as a string that holds one.
use Rattle.std.specs.Prelude.{ℕ, ◌+◌, ◌*◌, ◌-◌, ◌^◌, ◌&&◌, ◌||◌, ◌==◌, Bool, false, cond, nat_le, nat_lt, Option, None, Some, List, [], ◌∷◌, fold, pos, negsuc, option_and_then}
use Rattle.std.specs.List.{filter_map, list_all, slice_get}
use Rattle.std.specs.Str.{bytes_eq}
use Rattle.slicc_ast.specs.Prelude.{is_between}
use Rattle.slicc_ast.specs.declared.tree.span.Span.{Span}
use Rattle.slicc_ast.specs.declared.tree.declaration.Pairs.{Pairs}
use Rattle.slicc_ast.specs.declared.tree.declaration.Pair.{Pair}
use Rattle.slicc_ast.specs.declared.tree.declaration.Pair.TheVariants.{Named, Bare}
use Rattle.slicc_ast.specs.declared.tree.declaration.PairValue.{PairValue}
use Rattle.slicc_ast.specs.declared.tree.declaration.PairValue.TheVariants.{Quoted, Number, Name}

-- an attribute's value, and the whole attribute's place
pub record Attribute : Type 0 where
  pub value : PairValue
  pub place : Span

abbrev pub attribute_in : List ℕ → Pair → Option Attribute
attribute_in key (Named name value span) =
    cond (bytes_eq name.text key) (Some (record { value = value; place = span })) None
attribute_in key (Bare text span) = None

-- the attributes of this name, in order
abbrev pub attributes : List ℕ → Pairs → List Attribute
attributes key pairs = filter_map (attribute_in key) pairs.items

abbrev pub first_attribute : List ℕ → Pairs → Option Attribute
first_attribute key pairs = slice_get (attributes key pairs) 0

-- the value is this word
abbrev pub is_word : List ℕ → PairValue → Bool
is_word word (Quoted text) = bytes_eq text word
is_word word (Number n) = false
is_word word (Name name) = bytes_eq name.text word

abbrev pub is_attribute_word : List ℕ → Option Attribute → Bool
is_attribute_word word None = false
is_attribute_word word (Some a) = is_word word a.value

-- the declaration has this attribute with this word as its value
abbrev pub has_attribute : List ℕ → List ℕ → Pairs → Bool
has_attribute key word pairs = is_attribute_word word (first_attribute key pairs)

abbrev pub is_digit : ℕ → Bool
is_digit c = is_between 48 57 c

-- a hexadecimal digit, whose letters may be of either case
abbrev pub is_hexadecimal : ℕ → Bool
is_hexadecimal c = is_digit c || is_between 65 70 c || is_between 97 102 c

abbrev pub digit_value : ℕ → ℕ
digit_value c = cond (nat_le c 57) (c - 48) (cond (nat_le c 70) (c - 55) (c - 87))

-- the number that digits stand for in a base, where there are digits and they are all of this kind
abbrev pub digits_number : (ℕ → Bool) → ℕ → List ℕ → Option ℕ
digits_number is_right base [] = None
digits_number is_right base (c ∷ cs) =
    cond (list_all is_right (c ∷ cs)) (Some (fold (λ n d. base * n + digit_value d) 0 (c ∷ cs))) None

-- the number that a text spells: decimal digits, or `0x` and hexadecimal ones
abbrev pub spelled_number : List ℕ → Option ℕ
spelled_number [] = None
spelled_number (c ∷ []) = digits_number is_digit 10 (c ∷ [])
spelled_number (c ∷ d ∷ cs) =
    cond ((c == 48) && (d == 120)) (digits_number is_hexadecimal 16 cs) (digits_number is_digit 10 (c ∷ d ∷ cs))

-- no number of SLICC is above 2^63 - 1
abbrev pub number_in_range : ℕ → Option ℕ
number_in_range n = cond (nat_lt n (2 ^ 63)) (Some n) None

abbrev pub number_value : PairValue → Option ℕ
number_value (Quoted text) = option_and_then number_in_range (spelled_number text)
number_value (Number (pos n)) = Some n
number_value (Number (negsuc n)) = None
number_value (Name name) = None

-- the value is a number from the lower to the higher one
abbrev pub is_within : ℕ → ℕ → Option ℕ → Bool
is_within low high None = false
is_within low high (Some n) = is_between low high n
