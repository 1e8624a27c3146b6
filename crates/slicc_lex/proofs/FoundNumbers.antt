-- The number at the front of bytes is a token or a fault.
use Rattle.std.proofs.Common.{◌≡◌, ◌+◌, ◌≤◌, ◌<◌, ◌^◌, ◌&&◌, ℕ, suc, true, List, [], ◌∷◌, length, take, drop, refl, sym, ap, ◌∙◌, subst, arith, eqb, eqb-true, inl, inr, ⊎_elim, pos, ℤ, to_z, of_z, w64, SFits, rules}
use Rattle.std.specs.List.{prefix_len, list_all}
use Rattle.std.proofs.lemmas.Bool.{cond-true, cond-false, cases_Bool, and_parts}
use Rattle.std.proofs.lemmas.List.{length-take-le}
use Rattle.std.proofs.lemmas.List.Sums.{prefix_len-le-length}
use Rattle.std.proofs.lemmas.Int.{ints, to_z-of_z}
use Rattle.slicc_ast.specs.declared.tree.token.TokenKind.TheVariants.{Number}
use Rattle.slicc_lex.specs.declared.class.Class.TheVariants.{Digit}
use Rattle.slicc_lex.specs.declared.fault.LexFault.TheVariants.{NumberTooLarge}
use Rattle.slicc_lex.specs.declared.piece.Piece.TheVariants.{Lexeme}
use Rattle.slicc_lex.specs.Prelude.{is_digit, is_hexadecimal, number_of, IsNumeral, AreHexadecimal, IsDecimal, IsFault, IsWithinLimits, BeginsWith, hexadecimal_size, Stands}
use Rattle.slicc_lex.proofs.Spans.{span_is}
use Rattle.slicc_lex.proofs.Classes.{digit_from, first_from}
use Rattle.slicc_lex.proofs.Longest.{AreWithin, stands, next_is, hexadecimal_within, decimal_within}

-- hexadecimal digits at the front, with `0x` before them
record Prefixed (bytes : List ℕ) : Type 0 where
  digits : List ℕ
  split : bytes ≡ 48 ∷ 120 ∷ digits
  size : hexadecimal_size bytes ≡ prefix_len is_hexadecimal digits

prefixed : (bytes : List ℕ) → 1 ≤ hexadecimal_size bytes → Prefixed bytes
prefixed [] some = absurd (omega arith)
prefixed (c ∷ []) some = absurd (omega arith)
prefixed (c ∷ d ∷ cs) some =
    ⊎_elim
    (λ is.
    let both = and_parts (eqb c 48) (eqb d 120) is in
    record { digits = cs; split = ap (λ b. b ∷ d ∷ cs) (eqb-true c 48 both.0) ∙ ap (λ b. 48 ∷ b ∷ cs) (eqb-true d 120 both.1); size = cond-true (eqb c 48 && eqb d 120) (prefix_len is_hexadecimal cs) 0 is })
    (λ no. let none : hexadecimal_size (c ∷ d ∷ cs) ≡ 0 = cond-false (eqb c 48 && eqb d 120) (prefix_len is_hexadecimal cs) 0 no in absurd (omega (arith, none, some)))
    (cases_Bool (eqb c 48 && eqb d 120))

hexadecimal_digits : (digits : List ℕ) (n : ℕ) → 1 ≤ length digits → list_all is_hexadecimal digits ≡ true → n ≡ number_of 16 digits → AreHexadecimal digits n
hexadecimal_digits [] n some all is = absurd (omega arith)
hexadecimal_digits (c ∷ cs) n some all is = (all, is)

decimal_digits : (digits : List ℕ) (n : ℕ) → 1 ≤ length digits → list_all is_digit digits ≡ true → n ≡ number_of 10 digits → IsDecimal digits n
decimal_digits [] n some all is = absurd (omega arith)
decimal_digits (c ∷ cs) n some all is = (all, is)

-- the piece of a hexadecimal number
pub record IsPrefixed (bytes digits : List ℕ) (size : ℕ) : Type 0 where
  pub numeral : IsNumeral (take (2 + size) bytes) (number_of 16 digits)
  pub inside : 2 + size ≤ length bytes

pub is_prefixed : (bytes digits behind : List ℕ) (size : ℕ) → size ≡ hexadecimal_size bytes → 1 ≤ size → behind ≡ drop 2 bytes → digits ≡ take size behind → IsPrefixed bytes digits size
is_prefixed bytes digits behind size size_is some behind_is digits_are =
    let is = prefixed bytes (subst (λ n. 1 ≤ n) size_is some) in
    let tail : behind ≡ is.digits = behind_is ∙ ap (drop 2) is.split in
    let long : size ≡ prefix_len is_hexadecimal is.digits = size_is ∙ is.size in
    let fits : size ≤ length is.digits = omega (arith, long, prefix_len-le-length is_hexadecimal is.digits) in
    let cut : digits ≡ take size is.digits = digits_are ∙ ap (take size) tail in
    let all : list_all is_hexadecimal digits ≡ true = ap (list_all is_hexadecimal) (cut ∙ ap (λ n. take n is.digits) long) ∙ (span_is is_hexadecimal is.digits).0 in
    let two : 2 + size ≡ suc (suc size) = omega arith in
    let taken : take (2 + size) bytes ≡ 48 ∷ 120 ∷ digits = ap (λ n. take n bytes) two ∙ ap (take (suc (suc size))) is.split ∙ ap (λ ds. 48 ∷ 120 ∷ ds) (sym cut) in
    record {
      numeral = inr (digits, taken, hexadecimal_digits digits (number_of 16 digits) (omega (arith, some, fits, ap length cut, length-take-le size is.digits fits)) all refl);
      inside = omega (arith, fits, ap length is.split);
    }

within_limits : (n : ℤ) (value : ℕ) → n ≡ pos value → value < 2 ^ 63 → IsWithinLimits (Number n)
within_limits n value is small = subst (λ m. IsWithinLimits (Number m)) (sym is) (omega (arith, ints, small))

pub found_hexadecimal : (bytes digits behind : List ℕ) (size : ℕ) (n : ℤ) → BeginsWith Digit bytes → size ≡ hexadecimal_size bytes → 1 ≤ size → behind ≡ drop 2 bytes → digits ≡ take size behind → (n ≡ pos (number_of 16 digits)) × (number_of 16 digits < 2 ^ 63) → Stands bytes (Lexeme (Number n)) (2 + size)
found_hexadecimal bytes digits behind size n is size_is some behind_is digits_are value =
    let piece = is_prefixed bytes digits behind size size_is some behind_is digits_are in
    stands bytes (Lexeme (Number n)) (2 + size) (number_of 16 digits, value.0, piece.numeral)
    (subst (λ k. AreWithin bytes (2 + k)) (sym size_is) (hexadecimal_within bytes (first_from Digit bytes is) (subst (λ k. 1 ≤ k) size_is some)))
    (within_limits n (number_of 16 digits) value.0 value.1) (omega arith) piece.inside

pub hexadecimal_too_large : (at : ℕ) (bytes digits behind : List ℕ) (size : ℕ) → BeginsWith Digit bytes → size ≡ hexadecimal_size bytes → 1 ≤ size → behind ≡ drop 2 bytes → digits ≡ take size behind → 2 ^ 63 ≤ number_of 16 digits → IsFault at bytes (NumberTooLarge at)
hexadecimal_too_large at bytes digits behind size is size_is some behind_is digits_are large =
    let piece = is_prefixed bytes digits behind size size_is some behind_is digits_are in (
      number_of 16 digits,
      take (2 + size) bytes,
      drop (2 + size) bytes,
      next_is bytes (Lexeme (Number (pos (number_of 16 digits)))) (2 + size) (number_of 16 digits, refl, piece.numeral)
          (subst (λ k. AreWithin bytes (2 + k)) (sym size_is) (hexadecimal_within bytes (first_from Digit bytes is) (subst (λ k. 1 ≤ k) size_is some))) piece.inside,
      large,
      refl,
    )

digit_some : (bytes : List ℕ) → BeginsWith Digit bytes → 1 ≤ prefix_len is_digit bytes
digit_some [] is = absurd is
digit_some (c ∷ cs) is = omega (arith, cond-true (is_digit c) (1 + prefix_len is_digit cs) 0 (digit_from c is))

decimal_is : (bytes digits : List ℕ) (size : ℕ) → BeginsWith Digit bytes → size ≡ prefix_len is_digit bytes → digits ≡ take size bytes → IsNumeral (take size bytes) (number_of 10 digits)
decimal_is bytes digits size is size_is cut =
    let fits : size ≤ length bytes = omega (arith, size_is, prefix_len-le-length is_digit bytes) in
    let all : list_all is_digit (take size bytes) ≡ true = ap (λ n. list_all is_digit (take n bytes)) size_is ∙ (span_is is_digit bytes).0 in
    inl (decimal_digits (take size bytes) (number_of 10 digits) (omega (arith, size_is, digit_some bytes is, length-take-le size bytes fits)) all (ap (number_of 10) cut))

pub found_decimal : (bytes digits : List ℕ) (size hexadecimal : ℕ) (n : ℤ) → BeginsWith Digit bytes → hexadecimal ≡ hexadecimal_size bytes → hexadecimal ≤ 0 → size ≡ prefix_len is_digit bytes → digits ≡ take size bytes → (n ≡ pos (number_of 10 digits)) × (number_of 10 digits < 2 ^ 63) → Stands bytes (Lexeme (Number n)) size
found_decimal bytes digits size hexadecimal n is other none size_is cut value =
    stands bytes (Lexeme (Number n)) size (number_of 10 digits, value.0, decimal_is bytes digits size is size_is cut)
    (subst (AreWithin bytes) (sym size_is) (decimal_within bytes (first_from Digit bytes is) (omega (arith, other, none))))
    (within_limits n (number_of 10 digits) value.0 value.1)
    (omega (arith, size_is, digit_some bytes is)) (omega (arith, size_is, prefix_len-le-length is_digit bytes))

pub decimal_too_large : (at : ℕ) (bytes digits : List ℕ) (size hexadecimal : ℕ) → BeginsWith Digit bytes → hexadecimal ≡ hexadecimal_size bytes → hexadecimal ≤ 0 → size ≡ prefix_len is_digit bytes → digits ≡ take size bytes → 2 ^ 63 ≤ number_of 10 digits → IsFault at bytes (NumberTooLarge at)
decimal_too_large at bytes digits size hexadecimal is other none size_is cut large = (
  number_of 10 digits,
  take size bytes,
  drop size bytes,
  next_is bytes (Lexeme (Number (pos (number_of 10 digits)))) size (number_of 10 digits, refl, decimal_is bytes digits size is size_is cut)
      (subst (AreWithin bytes) (sym size_is) (decimal_within bytes (first_from Digit bytes is) (omega (arith, other, none))))
      (omega (arith, size_is, prefix_len-le-length is_digit bytes)),
  large,
  refl,
)

-- the digits are all there
pub hexadecimal_fits : (bytes behind : List ℕ) (size : ℕ) → size ≡ hexadecimal_size bytes → 1 ≤ size → behind ≡ drop 2 bytes → size ≤ length behind
hexadecimal_fits bytes behind size size_is some behind_is =
    let is = prefixed bytes (subst (λ n. 1 ≤ n) size_is some) in
    let tail : behind ≡ is.digits = behind_is ∙ ap (drop 2) is.split in
    omega (arith, size_is, is.size, prefix_len-le-length is_hexadecimal is.digits, ap length tail)

fits_below : (value : ℕ) → value < 2 ^ 63 → SFits w64 (pos value)
fits_below value small = search rules

-- a number that fits is itself as a signed one
pub same_number : (n : ℤ) (value : ℕ) → (n ≡ pos value) × (value < 2 ^ 63) → n ≡ to_z w64 (of_z w64 n)
same_number n value is = let fits : SFits w64 n = subst (SFits w64) (sym is.0) (fits_below value is.1) in sym (to_z-of_z w64 n fits)
