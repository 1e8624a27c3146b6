-- Bytes are written as one piece alone, and one piece alone stands at the front of bytes.
use Rattle.std.proofs.Common.{◌≡◌, ◌≢◌, ◌⊎◌, ◌-◌, ◌≤◌, ℕ, ℤ, true, List, [], ◌∷◌, ◌++◌, length, length-append, take, drop, refl, sym, ap, ◌∙◌, subst, arith, inl, inr, append-nil, take_at, drop_at, pos, ⊎_elim}
use Rattle.std.specs.List.{list_all}
use Rattle.std.proofs.lemmas.Bool.{and_parts, false≢true}
use Rattle.std.specs.Prelude.{codes}
use Rattle.slicc_ast.specs.declared.tree.token.TokenKind.{TokenKind}
use Rattle.slicc_ast.specs.declared.tree.token.TokenKind.TheVariants.{Name, Number, Quoted, Word, Sign, End}
use Rattle.slicc_ast.specs.declared.tree.token.Word.{Word as Reserved}
use Rattle.slicc_ast.specs.declared.tree.token.Sign.{Sign as SignKind}
use Rattle.slicc_lex.specs.declared.class.Class.{Class}
use Rattle.slicc_lex.specs.declared.class.Class.TheVariants.{Blank, Letter, Digit, Quote, Slash, Other}
use Rattle.slicc_lex.specs.declared.piece.Piece.{Piece}
use Rattle.slicc_lex.specs.declared.piece.Piece.TheVariants.{Gap, Lexeme}
use Rattle.slicc_lex.specs.Prelude.{word_bytes, sign_bytes, is_digit, IsNumeral, IsDecimal, AreHexadecimal, number_of, IsWord, IsQuotedBy, IsWritten, IsPiece, IsNext}
use Rattle.slicc_lex.proofs.Words.{one_word}
use Rattle.slicc_lex.proofs.Shapes.{first_class, blank_class, letter_class, digit_class, sign_class, word_is_word}
use Rattle.slicc_lex.proofs.FoundSigns.{one_sign}

-- the class of the first byte of a token
kind_class : TokenKind → Class
kind_class (Name word) = Letter
kind_class (Number n) = Digit
kind_class (Quoted text) = Quote
kind_class (Word reserved) = Letter
kind_class (Sign sign) = Other
kind_class End = Blank

word_first : (word : List ℕ) → IsWord word → first_class word ≡ Letter
word_first [] is = absurd is
word_first (c ∷ cs) is = letter_class c is.0

number_first : (written : List ℕ) (n : ℕ) → IsNumeral written n → first_class written ≡ Digit
number_first [] n (inl is) = absurd is
number_first (c ∷ cs) n (inl is) = digit_class c (and_parts (is_digit c) (list_all is_digit cs) is.0).0
number_first written n (inr (digits, is, all)) = ap first_class is

kind_first : (kind : TokenKind) (written : List ℕ) → IsWritten kind written → first_class written ≡ kind_class kind
unfolding kind_class
kind_first (Name word) written is = ap first_class is.0 ∙ word_first word is.1
kind_first (Number n) written is = number_first written is.0 is.2
kind_first (Quoted text) written (inl is) = ap first_class is.0
kind_first (Quoted text) written (inr is) = ap first_class is.0
kind_first (Word reserved) written is = ap first_class is ∙ word_first (word_bytes reserved) (word_is_word reserved)
kind_first (Sign sign) written is = ap first_class (is ∙ sym (append-nil (sign_bytes sign))) ∙ sign_class sign []
kind_first End written is = absurd is

gap_first : (written : List ℕ) → IsPiece Gap written → (first_class written ≡ Blank) ⊎ (first_class written ≡ Slash)
gap_first written (inl (c, is_blank, is)) = inl (ap first_class is ∙ blank_class c is_blank)
gap_first written (inr (inl (text, is, all))) = inr (ap first_class is)
gap_first written (inr (inr (text, is, closes))) = inr (ap first_class is)

no_gap : (kind : TokenKind) (written : List ℕ) → IsPiece Gap written → IsWritten kind written → ⊥
unfolding kind_class
no_gap (Name word) written gap is = ⊎_elim (λ a. let no : Blank ≡ Letter = sym a ∙ kind_first (Name word) written is in cc) (λ a. let no : Slash ≡ Letter = sym a ∙ kind_first (Name word) written is in cc) (gap_first written gap)
no_gap (Number n) written gap is = ⊎_elim (λ a. let no : Blank ≡ Digit = sym a ∙ kind_first (Number n) written is in cc) (λ a. let no : Slash ≡ Digit = sym a ∙ kind_first (Number n) written is in cc) (gap_first written gap)
no_gap (Quoted text) written gap is = ⊎_elim (λ a. let no : Blank ≡ Quote = sym a ∙ kind_first (Quoted text) written is in cc) (λ a. let no : Slash ≡ Quote = sym a ∙ kind_first (Quoted text) written is in cc) (gap_first written gap)
no_gap (Word reserved) written gap is = ⊎_elim (λ a. let no : Blank ≡ Letter = sym a ∙ kind_first (Word reserved) written is in cc) (λ a. let no : Slash ≡ Letter = sym a ∙ kind_first (Word reserved) written is in cc) (gap_first written gap)
no_gap (Sign sign) written gap is = ⊎_elim (λ a. let no : Blank ≡ Other = sym a ∙ kind_first (Sign sign) written is in cc) (λ a. let no : Slash ≡ Other = sym a ∙ kind_first (Sign sign) written is in cc) (gap_first written gap)
no_gap End written gap is = is

-- digits and `0x` are not both at the front
not_both : (written digits : List ℕ) (n : ℕ) → written ≡ codes "0x" ++ digits → IsDecimal written n → ⊥
not_both [] digits n is decimal = decimal
not_both (c ∷ []) digits n is decimal = omega (arith, ap length is)
not_both (c ∷ d ∷ ds) digits n is decimal =
    let second : is_digit d ≡ true = (and_parts (is_digit d) (list_all is_digit ds) (and_parts (is_digit c) (list_all is_digit (d ∷ ds)) decimal.0).1).0 in
    let d_is : d ≡ 120 = cc is in
    false≢true (ap is_digit (sym d_is) ∙ second)

decimal_number : (written : List ℕ) (n : ℕ) → IsDecimal written n → n ≡ number_of 10 written
decimal_number [] n is = absurd is
decimal_number (c ∷ cs) n is = is.1

hexadecimal_number : (digits : List ℕ) (n : ℕ) → AreHexadecimal digits n → n ≡ number_of 16 digits
hexadecimal_number [] n is = absurd is
hexadecimal_number (c ∷ cs) n is = is.1

one_number : (written : List ℕ) (m n : ℕ) → IsNumeral written m → IsNumeral written n → m ≡ n
one_number written m n (inl a) (inl b) = decimal_number written m a ∙ sym (decimal_number written n b)
one_number written m n (inl a) (inr (digits, is, all)) = absurd (not_both written digits m is a)
one_number written m n (inr (digits, is, all)) (inl b) = absurd (not_both written digits n is b)
one_number written m n (inr (digits, is, all)) (inr (others, is', all')) =
    let both : 48 ∷ 120 ∷ digits ≡ 48 ∷ 120 ∷ others = sym is ∙ is' in
    let same : digits ≡ others = cc both in
    hexadecimal_number digits m all ∙ ap (number_of 16) same ∙ sym (hexadecimal_number others n all')

-- the text between two quotes
text_between : (quote : ℕ) (text written : List ℕ) → IsQuotedBy quote text written → text ≡ take (length written - 2) (drop 1 written)
text_between quote text written is =
    let size : length written - 2 ≡ length text = omega (arith, ap length is.0, length-append text (quote ∷ [])) in
    sym (ap (λ n. take n (drop 1 written)) size ∙ ap (λ w. take (length text) (drop 1 w)) is.0 ∙ take_at text (quote ∷ []) (length text) refl)

one_text : (text other written : List ℕ) → IsWritten (Quoted text) written → IsWritten (Quoted other) written → text ≡ other
one_text text other written (inl a) (inl b) = text_between 34 text written a ∙ sym (text_between 34 other written b)
one_text text other written (inl a) (inr b) = text_between 34 text written a ∙ sym (text_between 39 other written b)
one_text text other written (inr a) (inl b) = text_between 39 text written a ∙ sym (text_between 34 other written b)
one_text text other written (inr a) (inr b) = text_between 39 text written a ∙ sym (text_between 39 other written b)

-- two tokens of unlike classes are not written alike
unlike : (a b : TokenKind) (written : List ℕ) → kind_class a ≢ kind_class b → IsWritten a written → IsWritten b written → ⊥
unlike a b written differ first second = differ (sym (kind_first a written first) ∙ kind_first b written second)

-- a token by its bytes
pub one_kind : (a b : TokenKind) (written : List ℕ) → IsWritten a written → IsWritten b written → a ≡ b
unfolding kind_class
one_kind (Name word) (Name other) written first second = ap (λ (w : List ℕ). Name w) (sym first.0 ∙ second.0)
one_kind (Name word) (Word reserved) written first second = absurd (first.2 reserved (sym first.0 ∙ second))
one_kind (Word reserved) (Name word) written first second = absurd (second.2 reserved (sym second.0 ∙ first))
one_kind (Word reserved) (Word other) written first second = ap (λ (w : Reserved). Word w) (one_word reserved other (sym first ∙ second))
one_kind (Number m) (Number n) written first second =
    ap (λ (z : ℤ). Number z) (first.1 ∙ ap (λ (v : ℕ). pos v) (one_number written first.0 second.0 first.2 second.2) ∙ sym second.1)
one_kind (Quoted text) (Quoted other) written first second = ap (λ (t : List ℕ). Quoted t) (one_text text other written first second)
one_kind (Sign sign) (Sign other) written first second = ap (λ (s : SignKind). Sign s) (one_sign sign other (sym first ∙ second))
one_kind End b written first second = absurd first
one_kind a End written first second = absurd second
one_kind a b written first second = absurd (unlike a b written (λ (e : kind_class a ≡ kind_class b). cc) first second)

pub one_piece : (a b : Piece) (written : List ℕ) → IsPiece a written → IsPiece b written → a ≡ b
one_piece Gap Gap written first second = refl
one_piece Gap (Lexeme kind) written first second = absurd (no_gap kind written first second)
one_piece (Lexeme kind) Gap written first second = absurd (no_gap kind written second first)
one_piece (Lexeme kind) (Lexeme other) written first second = ap (λ (k : TokenKind). Lexeme k) (one_kind kind other written first second)

-- what two readings of the front of bytes have in common
pub record SameFront (a b : Piece) (written written' rest rest' : List ℕ) : Type 0 where
  pub piece : a ≡ b
  pub bytes : written ≡ written'
  pub behind : rest ≡ rest'

pub one_front : (bytes : List ℕ) (a b : Piece) (written written' rest rest' : List ℕ) → IsNext bytes a written rest → IsNext bytes b written' rest' → SameFront a b written written' rest rest'
one_front bytes a b written written' rest rest' first second =
    let at_most : length written ≤ length written' = second.longest a written rest first.split first.is_written in
    let at_least : length written' ≤ length written = first.longest b written' rest' second.split second.is_written in
    let size : length written ≡ length written' = omega arith in
    let both : written ++ rest ≡ written' ++ rest' = sym first.split ∙ second.split in
    let same : written ≡ written' = sym (take_at written rest (length written) refl) ∙ ap (take (length written)) both ∙ take_at written' rest' (length written) (sym size) in
    let behind : rest ≡ rest' = sym (drop_at written rest (length written) refl) ∙ ap (drop (length written)) both ∙ drop_at written' rest' (length written) (sym size) in
    record { piece = one_piece a b written first.is_written (subst (IsPiece b) (sym same) second.is_written); bytes = same; behind = behind }
