-- The shapes that a piece of a text has, each with the class of its first byte.
use Rattle.std.proofs.Common.{◌≡◌, ◌≤◌, ◌||◌, ℕ, Bool, true, false, List, [], ◌∷◌, ◌++◌, length, refl, sym, ◌∙◌, subst, arith, eqb, leb, eqb-true, leb-true, inl, inr, ⊎_elim}
use Rattle.std.specs.List.{list_all}
use Rattle.std.proofs.lemmas.Bool.{cond-true, cond-false, cases_Bool, and_parts, or_cases, false≢true}
use Rattle.slicc_ast.specs.declared.tree.token.TokenKind.TheVariants.{Name, Number, Quoted, Word, Sign, End}
use Rattle.slicc_ast.specs.declared.tree.token.Word.{Word as Reserved}
use Rattle.slicc_ast.specs.declared.tree.token.Word.TheVariants.{Protocol, Include, Machine, Enumeration, StateDeclaration, Structure, InPort, OutPort, Action, Transition, Peek, Enqueue, StallAndWait, CheckAllocate, If, Else, Return, True, False, Ood, New, IsValid, IsInvalid, StaticCast, Error, Assert, Dprintf, AppendTransitionComment, While}
use Rattle.slicc_ast.specs.declared.tree.token.Sign.{Sign as SignKind}
use Rattle.slicc_ast.specs.declared.tree.token.Sign.TheVariants.{OpenBrace, CloseBrace, OpenParenthesis, CloseParenthesis, OpenBracket, CloseBracket, Semicolon, Colon, Comma, Dot, Equals, Assign, Equal, Unequal, Less, Greater, LessOrEqual, GreaterOrEqual, Plus, Minus, Star, Not, And, Or}
use Rattle.slicc_ast.specs.Prelude.{is_blank, is_letter, is_word_byte}
use Rattle.slicc_lex.specs.declared.class.Class.{Class}
use Rattle.slicc_lex.specs.declared.class.Class.TheVariants.{Blank, Letter, Digit, Quote, Slash, Other}
use Rattle.slicc_lex.specs.declared.piece.Piece.{Piece}
use Rattle.slicc_lex.specs.declared.piece.Piece.TheVariants.{Gap, Lexeme}
use Rattle.slicc_lex.specs.Prelude.{word_bytes, sign_bytes, is_digit, is_hexadecimal, IsNumeral, is_in_line, is_inside, has_close, IsPiece, IsQuotedBy, IsWord, class_of, is_quote}

-- the shape of a piece, by its bytes
pub data Shape : List ℕ → Type 0 where
  blank : {c : ℕ} → is_blank c ≡ true → Shape (c ∷ [])
  line : {text : List ℕ} → list_all is_in_line text ≡ true → Shape (47 ∷ 47 ∷ text)
  block : (text : List ℕ) → has_close (text ++ 42 ∷ []) ≡ false → Shape (47 ∷ 42 ∷ text ++ 42 ∷ 47 ∷ [])
  word : {c : ℕ} {cs : List ℕ} → is_letter c ≡ true → list_all is_word_byte cs ≡ true → Shape (c ∷ cs)
  decimal : {c : ℕ} {cs : List ℕ} → list_all is_digit (c ∷ cs) ≡ true → Shape (c ∷ cs)
  hexadecimal : {c : ℕ} {cs : List ℕ} → list_all is_hexadecimal (c ∷ cs) ≡ true → Shape (48 ∷ 120 ∷ c ∷ cs)
  quoted : (quote : ℕ) (text : List ℕ) → is_quote quote ≡ true → list_all (is_inside quote) text ≡ true → Shape (quote ∷ text ++ quote ∷ [])
  mark : (sign : SignKind) → Shape (sign_bytes sign)

pub word_is_word : (reserved : Reserved) → IsWord (word_bytes reserved)
word_is_word Protocol = (refl, refl)
word_is_word Include = (refl, refl)
word_is_word Machine = (refl, refl)
word_is_word Enumeration = (refl, refl)
word_is_word StateDeclaration = (refl, refl)
word_is_word Structure = (refl, refl)
word_is_word InPort = (refl, refl)
word_is_word OutPort = (refl, refl)
word_is_word Action = (refl, refl)
word_is_word Transition = (refl, refl)
word_is_word Peek = (refl, refl)
word_is_word Enqueue = (refl, refl)
word_is_word StallAndWait = (refl, refl)
word_is_word CheckAllocate = (refl, refl)
word_is_word If = (refl, refl)
word_is_word Else = (refl, refl)
word_is_word Return = (refl, refl)
word_is_word True = (refl, refl)
word_is_word False = (refl, refl)
word_is_word Ood = (refl, refl)
word_is_word New = (refl, refl)
word_is_word IsValid = (refl, refl)
word_is_word IsInvalid = (refl, refl)
word_is_word StaticCast = (refl, refl)
word_is_word Error = (refl, refl)
word_is_word Assert = (refl, refl)
word_is_word Dprintf = (refl, refl)
word_is_word AppendTransitionComment = (refl, refl)
word_is_word While = (refl, refl)

quoted_shape : (quote : ℕ) (text written : List ℕ) → is_quote quote ≡ true → IsQuotedBy quote text written → Shape written
quoted_shape quote text written quotes is = subst Shape (sym is.0) (quoted quote text quotes is.1)

decimal_shape : (written : List ℕ) (n : ℕ) → IsNumeral written n → Shape written
decimal_shape [] n (inl is) = absurd is
decimal_shape (c ∷ cs) n (inl is) = decimal is.0
decimal_shape written n (inr ([], is, digits)) = absurd digits
decimal_shape written n (inr (d ∷ ds, is, digits)) = subst Shape (sym is) (hexadecimal digits.0)

name_shape : (word_is : List ℕ) → IsWord word_is → Shape word_is
name_shape [] is = absurd is
name_shape (c ∷ cs) is = word is.0 is.1

-- each way to write a piece has a shape
pub shape_of : (piece : Piece) (written : List ℕ) → IsPiece piece written → Shape written
shape_of Gap written (inl (c, is_blank, is)) = subst Shape (sym is) (blank is_blank)
shape_of Gap written (inr (inl (text, is, all))) = subst Shape (sym is) (line all)
shape_of Gap written (inr (inr (text, is, closes))) = subst Shape (sym is) (block text closes)
shape_of (Lexeme (Name name)) written is = subst Shape (sym is.0) (name_shape name is.1)
shape_of (Lexeme (Number n)) written is = decimal_shape written is.0 is.2
shape_of (Lexeme (Quoted text)) written (inl is) = quoted_shape 34 text written refl is
shape_of (Lexeme (Quoted text)) written (inr is) = quoted_shape 39 text written refl is
shape_of (Lexeme (Word reserved)) written is = subst Shape (sym is) (name_shape (word_bytes reserved) (word_is_word reserved))
shape_of (Lexeme (Sign sign)) written is = subst Shape (sym is) (mark sign)
shape_of (Lexeme End) written is = absurd is

-- a blank is one of four bytes
blank_cases : (P : ℕ → Type 0) → P 32 → P 9 → P 13 → P 10 → (c : ℕ) → is_blank c ≡ true → P c
blank_cases P space tab return feed c is =
    ⊎_elim
    (λ three.
    ⊎_elim
    (λ two. ⊎_elim (λ a. subst P (sym (eqb-true c 32 a)) space) (λ a. subst P (sym (eqb-true c 9 a)) tab) (or_cases (eqb c 32) (eqb c 9) two))
    (λ a. subst P (sym (eqb-true c 13 a)) return)
    (or_cases (eqb c 32 || eqb c 9) (eqb c 13) three))
    (λ a. subst P (sym (eqb-true c 10 a)) feed)
    (or_cases (eqb c 32 || eqb c 9 || eqb c 13) (eqb c 10) is)

quote_cases : (P : ℕ → Type 0) → P 34 → P 39 → (c : ℕ) → is_quote c ≡ true → P c
quote_cases P double single c is =
    ⊎_elim (λ a. subst P (sym (eqb-true c 34 a)) double) (λ a. subst P (sym (eqb-true c 39 a)) single) (or_cases (eqb c 34) (eqb c 39) is)

pub blank_class : (c : ℕ) → is_blank c ≡ true → class_of c ≡ Blank
blank_class c is = cond-true (is_blank c) _ _ is

-- what passes a test that fails at each blank is no blank
no_blank : (p : ℕ → Bool) → p 32 ≡ false → p 9 ≡ false → p 13 ≡ false → p 10 ≡ false → (c : ℕ) → p c ≡ true → is_blank c ≡ false
no_blank p space tab return feed c passes =
    ⊎_elim
    (λ is. absurd (false≢true (sym (blank_cases (λ d. p d ≡ false) space tab return feed c is) ∙ passes)))
    (λ no. no)
    (cases_Bool (is_blank c))

pub letter_class : (c : ℕ) → is_letter c ≡ true → class_of c ≡ Letter
letter_class c is = cond-false (is_blank c) _ _ (no_blank is_letter refl refl refl refl c is) ∙ cond-true (is_letter c) _ _ is

digit_no_letter : (c : ℕ) → is_digit c ≡ true → is_letter c ≡ true → ⊥
digit_no_letter c digit letter =
    let low = leb-true 48 c (and_parts (leb 48 c) (leb c 57) digit).0 in
    let high = leb-true c 57 (and_parts (leb 48 c) (leb c 57) digit).1 in
    ⊎_elim
    (λ either.
    ⊎_elim
    (λ upper. let at_least = leb-true 65 c (and_parts (leb 65 c) (leb c 90) upper).0 in absurd (omega arith))
    (λ lower. let at_least = leb-true 97 c (and_parts (leb 97 c) (leb c 122) lower).0 in absurd (omega arith))
    (or_cases _ _ either))
    (λ line. let is = eqb-true c 95 line in absurd (omega arith))
    (or_cases _ _ letter)

pub digit_class : (c : ℕ) → is_digit c ≡ true → class_of c ≡ Digit
digit_class c is =
    cond-false (is_blank c) _ _ (no_blank is_digit refl refl refl refl c is)
    ∙ ⊎_elim (λ letter. absurd (digit_no_letter c is letter)) (λ no. cond-false (is_letter c) _ _ no) (cases_Bool (is_letter c))
    ∙ cond-true (is_digit c) _ _ is

quote_class : (c : ℕ) → is_quote c ≡ true → class_of c ≡ Quote
quote_class c is = quote_cases (λ d. class_of d ≡ Quote) refl refl c is

-- the class of the first byte of a shape
abbrev pub shape_class : {written : List ℕ} → Shape written → Class
shape_class (blank is) = Blank
shape_class (line all) = Slash
shape_class (block text closes) = Slash
shape_class (word first all) = Letter
shape_class (decimal all) = Digit
shape_class (hexadecimal all) = Digit
shape_class (quoted quote text quotes all) = Quote
shape_class (mark sign) = Other

abbrev pub first_class : List ℕ → Class
first_class [] = Blank
first_class (c ∷ cs) = class_of c

pub sign_class : (sign : SignKind) (behind : List ℕ) → first_class (sign_bytes sign ++ behind) ≡ Other
sign_class OpenBrace behind = refl
sign_class CloseBrace behind = refl
sign_class OpenParenthesis behind = refl
sign_class CloseParenthesis behind = refl
sign_class OpenBracket behind = refl
sign_class CloseBracket behind = refl
sign_class Semicolon behind = refl
sign_class Colon behind = refl
sign_class Comma behind = refl
sign_class Dot behind = refl
sign_class Equals behind = refl
sign_class Assign behind = refl
sign_class Equal behind = refl
sign_class Unequal behind = refl
sign_class Less behind = refl
sign_class Greater behind = refl
sign_class LessOrEqual behind = refl
sign_class GreaterOrEqual behind = refl
sign_class Plus behind = refl
sign_class Minus behind = refl
sign_class Star behind = refl
sign_class Not behind = refl
sign_class And behind = refl
sign_class Or behind = refl

-- the first byte of a shape has its class
pub class_is : {written : List ℕ} (shape : Shape written) (behind : List ℕ) → first_class (written ++ behind) ≡ shape_class shape
class_is (blank {c} is) behind = blank_class c is
class_is (line all) behind = refl
class_is (block text closes) behind = refl
class_is (word {c} first all) behind = letter_class c first
class_is (decimal {c} {cs} all) behind = digit_class c (and_parts (is_digit c) (list_all is_digit cs) all).0
class_is (hexadecimal all) behind = refl
class_is (quoted quote text quotes all) behind = quote_class quote quotes
class_is (mark sign) behind = sign_class sign behind

sign_some : (sign : SignKind) → 1 ≤ length (sign_bytes sign)
sign_some OpenBrace = omega arith
sign_some CloseBrace = omega arith
sign_some OpenParenthesis = omega arith
sign_some CloseParenthesis = omega arith
sign_some OpenBracket = omega arith
sign_some CloseBracket = omega arith
sign_some Semicolon = omega arith
sign_some Colon = omega arith
sign_some Comma = omega arith
sign_some Dot = omega arith
sign_some Equals = omega arith
sign_some Assign = omega arith
sign_some Equal = omega arith
sign_some Unequal = omega arith
sign_some Less = omega arith
sign_some Greater = omega arith
sign_some LessOrEqual = omega arith
sign_some GreaterOrEqual = omega arith
sign_some Plus = omega arith
sign_some Minus = omega arith
sign_some Star = omega arith
sign_some Not = omega arith
sign_some And = omega arith
sign_some Or = omega arith

-- a piece has a byte
pub shape_some : {written : List ℕ} → Shape written → 1 ≤ length written
shape_some (blank is) = omega arith
shape_some (line all) = omega arith
shape_some (block text closes) = omega arith
shape_some (word first all) = omega arith
shape_some (decimal all) = omega arith
shape_some (hexadecimal all) = omega arith
shape_some (quoted quote text quotes all) = omega arith
shape_some (mark sign) = sign_some sign
