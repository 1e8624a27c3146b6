-- Reading digits one by one gives the number that they stand for.
use Rattle.std.proofs.Common.{◌≡◌, ◌<◌, ◌≤◌, ◌+◌, ◌*◌, ◌^◌, ◌++◌, ◌&&◌, ◌==◌, ℕ, Bool, true, false, Option, None, Some, cond, List, [], ◌∷◌, refl, sym, ◌∙◌, ap, subst, fold, length, get_or, drop, arith, option_and_then, codes, suc, drop-cons}
use Rattle.std.specs.List.{list_all}
use Rattle.std.specs.Str.{bytes_eq}
use Rattle.std.proofs.lemmas.Slice.Eq.{bytes_eq-Decides}
use Rattle.std.proofs.lemmas.Bool.{and_parts, eqb-true}
use Rattle.slicc_plan.specs.Prelude.{digit_value, digits_number, is_digit, is_hexadecimal, number_in_range, spelled_number}
use Rattle.declaration_rules.specs.declared.numbers.Base.{Base}
use Rattle.declaration_rules.specs.declared.numbers.Base.TheVariants.{Decimal, Hexadecimal}
use Rattle.declaration_rules.specs.Prelude.{base_of, digits_in, is_right_in, read_from}

abbrev pub in_range : Option ℕ → Option ℕ
in_range o = option_and_then number_in_range o

pub read_cons : (base : Base) (n v : ℕ) (cs : List ℕ) (u : Bool)
    → read_from base n cs ≡ cond (list_all (is_right_in base) cs) (Some (fold (λ m d. base_of base * m + digit_value d) n cs)) None
    → cond u (read_from base n cs) None ≡ cond (u && list_all (is_right_in base) cs) (Some (fold (λ m d. base_of base * m + digit_value d) n cs)) None
read_cons base n v cs true e = e
read_cons base n v cs false e = refl

pub read_all : (base : Base) (n : ℕ) (cs : List ℕ) → read_from base n cs ≡ cond (list_all (is_right_in base) cs) (Some (fold (λ m d. base_of base * m + digit_value d) n cs)) None
read_all base n [] = refl
read_all base n (c ∷ cs) = read_cons base (base_of base * n + digit_value c) 0 cs (is_right_in base c) (read_all base (base_of base * n + digit_value c) cs)

pub some_are_read : (base : Base) (c : ℕ) (cs : List ℕ) → read_from base 0 (c ∷ cs) ≡ digits_in base (c ∷ cs)
some_are_read base c cs = read_all base 0 (c ∷ cs)

pub grows : (base : Base) (n d : ℕ) → n ≤ base_of base * n + d
grows Decimal n d = omega arith
grows Hexadecimal n d = omega arith

pub none_of : (u : Bool) (o : Option ℕ) → in_range o ≡ None → in_range (cond u o None) ≡ None
none_of true o e = e
none_of false o e = refl

-- a number that is too large stays so
pub too_large : (base : Base) (n : ℕ) (cs : List ℕ) → 2 ^ 63 ≤ n → in_range (read_from base n cs) ≡ None
too_large base n [] far = grind arith
too_large base n (c ∷ cs) far =
    none_of (is_right_in base c) (read_from base (base_of base * n + digit_value c) cs)
    (too_large base (base_of base * n + digit_value c) cs (let more = grows base n (digit_value c) in omega arith))

pub spelled_hexadecimal : (text rest : List ℕ) → text ≡ codes "0x" ++ rest → spelled_number text ≡ digits_in Hexadecimal rest
spelled_hexadecimal text rest e = ap spelled_number e

pub not_hexadecimal : (c d : ℕ) (cs : List ℕ) (u : Bool) → u ≡ ((c == 48) && (d == 120)) → bytes_eq (48 ∷ 120 ∷ cs) (c ∷ d ∷ cs) ≡ false → cond u (digits_number is_hexadecimal 16 cs) (digits_number is_digit 10 (c ∷ d ∷ cs)) ≡ digits_number is_digit 10 (c ∷ d ∷ cs)
not_hexadecimal c d cs false e differs = refl
not_hexadecimal c d cs true e differs =
    let both = and_parts (c == 48) (d == 120) (sym e) in
    let first : c ≡ 48 = eqb-true c 48 both.0 in
    let second : d ≡ 120 = eqb-true d 120 both.1 in
    let same : (48 ∷ 120 ∷ cs) ≡ (c ∷ d ∷ cs) = cc in
    let equal = (bytes_eq-Decides (48 ∷ 120 ∷ cs) (c ∷ d ∷ cs)).1 same in cc

pub spelled_decimal : (text : List ℕ) → ((rest : List ℕ) → bytes_eq (codes "0x" ++ rest) text ≡ false) → spelled_number text ≡ digits_in Decimal text
spelled_decimal [] differs = refl
spelled_decimal (c ∷ []) differs = refl
spelled_decimal (c ∷ d ∷ cs) differs = not_hexadecimal c d cs ((c == 48) && (d == 120)) refl (differs cs)

pub stops : (base : Base) (n : ℕ) (digits : List ℕ) (i r : ℕ) (start : Option ℕ) → i < length digits → r ≡ base_of base * n + digit_value (get_or digits i 0) → 2 ^ 63 ≤ r → start ≡ in_range (read_from base n (drop i digits)) → None ≡ start
stops base n digits i r start below e far before =
    let c = get_or digits i 0 in
    let cs = drop (suc i) digits in
    sym (before ∙ ap (λ ds. in_range (read_from base n ds)) (drop-cons digits i 0 below)
    ∙ none_of (is_right_in base c) (read_from base (base_of base * n + digit_value c) cs) (too_large base (base_of base * n + digit_value c) cs (subst (λ m. 2 ^ 63 ≤ m) e far)))

pub read_some : (base : Base) (digits : List ℕ) → 0 < length digits → read_from base 0 digits ≡ digits_in base digits
read_some base [] h = absurd (omega arith)
read_some base (c ∷ cs) h = some_are_read base c cs
