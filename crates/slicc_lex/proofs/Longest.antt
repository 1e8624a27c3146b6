-- The longest piece at the front of bytes, class by class of their first byte; and where no piece is there.
use Rattle.std.proofs.Common.{◌≡◌, ◌≢◌, ◌+◌, ◌≤◌, ◌&&◌, not, ℕ, Bool, true, false, Some, List, [], ◌∷◌, ◌++◌, length, take, drop, refl, sym, ap, ◌∙◌, subst, arith, append_assoc, take-append-drop, drop_at, length-append, eqb, eq-eqb}
use Rattle.std.specs.List.{prefix_len, list_all}
use Rattle.std.proofs.lemmas.Bool.{cond-false, and_parts, and_from, or_left, false≢true, ne_eqb}
use Rattle.std.proofs.lemmas.List.{length-take-le}
use Rattle.slicc_ast.specs.Prelude.{is_letter, is_word_byte}
use Rattle.slicc_lex.specs.declared.class.Class.{Class}
use Rattle.slicc_lex.specs.declared.class.Class.TheVariants.{Blank, Letter, Digit, Quote, Slash}
use Rattle.slicc_lex.specs.declared.piece.Piece.{Piece}
use Rattle.slicc_lex.specs.Prelude.{is_digit, is_hexadecimal, is_in_line, is_inside, IsPiece, IsNext, IsStuck, class_of, hexadecimal_size, close_len, IsPieceWithinLimits, Stands}
use Rattle.slicc_lex.proofs.Comments.{close_at, and_false_right}
use Rattle.slicc_lex.proofs.Spans.{front_within, len_span}
use Rattle.slicc_lex.proofs.Shapes.{Shape, blank, line, block, word, decimal, hexadecimal, quoted, shape_of, shape_class, first_class, class_is}

abbrev pub first_is : ℕ → List ℕ → Bool
first_is c [] = false
first_is c (d ∷ ds) = eqb d c

-- each piece at the front of the bytes has at most so many bytes
abbrev pub AreWithin : List ℕ → ℕ → Type 0
AreWithin bytes size = (written : List ℕ) → Shape written → (behind : List ℕ) → bytes ≡ written ++ behind → length written ≤ size

-- no piece is at the front of the bytes
abbrev pub HaveNone : List ℕ → Type 0
HaveNone bytes = (written : List ℕ) → Shape written → (behind : List ℕ) → bytes ≡ written ++ behind → ⊥

pub next_is : (bytes : List ℕ) (piece : Piece) (size : ℕ) → IsPiece piece (take size bytes) → AreWithin bytes size → size ≤ length bytes → IsNext bytes piece (take size bytes) (drop size bytes)
next_is bytes piece size is within inside = record {
  split = sym (take-append-drop size bytes);
  is_written = is;
  longest = λ other front behind split piece_is. omega (arith, within front (shape_of other front piece_is) behind split, length-take-le size bytes inside);
}

pub stands : (bytes : List ℕ) (piece : Piece) (size : ℕ) → IsPiece piece (take size bytes) → AreWithin bytes size → IsPieceWithinLimits piece → 1 ≤ size → size ≤ length bytes → Stands bytes piece size
stands bytes piece size is within limits some inside = record {
  next = next_is bytes piece size is within inside;
  within = limits;
  some = some;
  inside = inside;
}

pub stuck : (bytes : List ℕ) → HaveNone bytes → IsStuck bytes
stuck bytes none = λ piece front behind split is. none front (shape_of piece front is) behind split

-- the class of the bytes is that of a piece at their front
same_class : (bytes written behind : List ℕ) (class : Class) → first_class bytes ≡ class → (shape : Shape written) → bytes ≡ written ++ behind → shape_class shape ≡ class
same_class bytes written behind class is shape split = sym (class_is shape behind) ∙ ap first_class (sym split) ∙ is

-- a piece of another class is not at the front of the bytes
pub wrong : (bytes written behind : List ℕ) (class : Class) → first_class bytes ≡ class → (shape : Shape written) → bytes ≡ written ++ behind → shape_class shape ≢ class → ⊥
wrong bytes written behind class is shape split differs = differs (same_class bytes written behind class is shape split)

pub blank_within : (bytes : List ℕ) → first_class bytes ≡ Blank → AreWithin bytes 1
blank_within bytes is written (blank b) behind split = omega arith
blank_within bytes is written shape behind split = absurd (wrong bytes written behind Blank is shape split (λ (e : shape_class shape ≡ Blank). cc))

pub word_within : (bytes : List ℕ) → first_class bytes ≡ Letter → AreWithin bytes (prefix_len is_word_byte bytes)
word_within bytes is written (word {c} {cs} first all) behind split =
    let whole : list_all is_word_byte (c ∷ cs) ≡ true = and_from (is_word_byte c) (list_all is_word_byte cs) (or_left (is_letter c) _ first) all in
    subst (λ b. length (c ∷ cs) ≤ prefix_len is_word_byte b) (sym split) (front_within is_word_byte (c ∷ cs) behind whole)
word_within bytes is written shape behind split = absurd (wrong bytes written behind Letter is shape split (λ (e : shape_class shape ≡ Letter). cc))

not_hexadecimal : (c d : ℕ) (rest : List ℕ) → is_digit d ≡ true → 1 ≤ hexadecimal_size (c ∷ d ∷ rest) → ⊥
not_hexadecimal c d rest digit some =
    let other : eqb d 120 ≡ false = ne_eqb d 120 (λ is. false≢true (ap is_digit (sym is) ∙ digit)) in
    let none : hexadecimal_size (c ∷ d ∷ rest) ≡ 0 = cond-false (eqb c 48 && eqb d 120) (prefix_len is_hexadecimal rest) 0 (and_false_right (eqb c 48) (eqb d 120) other) in
    omega (arith, none, some)

-- of `0x` a decimal number has one digit
decimal_short : (c : ℕ) (cs behind : List ℕ) → list_all is_digit (c ∷ cs) ≡ true → 1 ≤ hexadecimal_size ((c ∷ cs) ++ behind) → length (c ∷ cs) ≤ 2 + hexadecimal_size ((c ∷ cs) ++ behind)
decimal_short c [] behind all some = omega arith
decimal_short c (d ∷ ds) behind all some =
    let second : is_digit d ≡ true = (and_parts (is_digit d) (list_all is_digit ds) (and_parts (is_digit c) (list_all is_digit (d ∷ ds)) all).1).0 in
    absurd (not_hexadecimal c d (ds ++ behind) second some)

-- where a number goes on, it is hexadecimal
pub hexadecimal_within : (bytes : List ℕ) → first_class bytes ≡ Digit → 1 ≤ hexadecimal_size bytes → AreWithin bytes (2 + hexadecimal_size bytes)
hexadecimal_within bytes is some written (decimal {c} {cs} all) behind split = subst (λ b. length (c ∷ cs) ≤ 2 + hexadecimal_size b) (sym split) (decimal_short c cs behind all (subst (λ b. 1 ≤ hexadecimal_size b) split some))
hexadecimal_within bytes is some written (hexadecimal {c} {cs} all) behind split =
    let within : length (c ∷ cs) ≤ hexadecimal_size (48 ∷ 120 ∷ c ∷ (cs ++ behind)) = front_within is_hexadecimal (c ∷ cs) behind all in
    omega (arith, within, ap hexadecimal_size split)
hexadecimal_within bytes is some written shape behind split = absurd (wrong bytes written behind Digit is shape split (λ (e : shape_class shape ≡ Digit). cc))

pub decimal_within : (bytes : List ℕ) → first_class bytes ≡ Digit → hexadecimal_size bytes ≡ 0 → AreWithin bytes (prefix_len is_digit bytes)
decimal_within bytes is none written (decimal {c} {cs} all) behind split = subst (λ b. length (c ∷ cs) ≤ prefix_len is_digit b) (sym split) (front_within is_digit (c ∷ cs) behind all)
decimal_within bytes is none written (hexadecimal {c} {cs} all) behind split =
    let some : length (c ∷ cs) ≤ hexadecimal_size (48 ∷ 120 ∷ c ∷ (cs ++ behind)) = front_within is_hexadecimal (c ∷ cs) behind all in
    absurd (omega (arith, some, ap hexadecimal_size split, none))
decimal_within bytes is none written shape behind split = absurd (wrong bytes written behind Digit is shape split (λ (e : shape_class shape ≡ Digit). cc))

-- how a quoted piece lies in the bytes
pub record Closes (quote : ℕ) (behind : List ℕ) (written : List ℕ) : Type 0 where
  pub size : length written ≡ 2 + prefix_len (is_inside quote) behind
  pub rest : List ℕ
  pub closed : drop (prefix_len (is_inside quote) behind) behind ≡ quote ∷ rest

closes_at : (quote : ℕ) (text rest behind : List ℕ) → list_all (is_inside quote) text ≡ true → behind ≡ text ++ (quote ∷ rest) → Closes quote behind (quote ∷ text ++ quote ∷ [])
closes_at quote text rest behind all split =
    let stops : is_inside quote quote ≡ false = ap (λ b. not b && is_in_line quote) (eq-eqb quote quote refl) in
    let size : prefix_len (is_inside quote) behind ≡ length text = ap (prefix_len (is_inside quote)) split ∙ len_span (is_inside quote) text (quote ∷ rest) all stops in
    record {
      size = omega (arith, size, length-append text (quote ∷ []));
      rest = rest;
      closed = ap (λ n. drop n behind) size ∙ ap (drop (length text)) split ∙ drop_at text (quote ∷ rest) (length text) refl;
    }

pub quoted_closes : (quote : ℕ) (behind : List ℕ) → class_of quote ≡ Quote → (written : List ℕ) → Shape written → (after : List ℕ) → quote ∷ behind ≡ written ++ after → Closes quote behind written
quoted_closes quote behind is written (quoted q text quotes all) after split =
    let same : q ≡ quote = cc in
    let tail : behind ≡ (text ++ q ∷ []) ++ after = cc in
    subst (λ p. Closes p behind (q ∷ text ++ q ∷ [])) same (closes_at q text after behind all (tail ∙ append_assoc text (q ∷ []) after))
quoted_closes quote behind is written shape after split = absurd (wrong (quote ∷ behind) written after Quote is shape split (λ (e : shape_class shape ≡ Quote). cc))

pub line_within : (text : List ℕ) → AreWithin (47 ∷ 47 ∷ text) (2 + prefix_len is_in_line text)
line_within text written (line {text = t} all) behind split =
    let tail : text ≡ t ++ behind = cc in
    omega (arith, front_within is_in_line t behind all, ap (prefix_len is_in_line) tail)
line_within text written (block t closes) behind split = absurd (let no : ◌≡◌ {A = ℕ} 47 42 = cc in omega (arith, no))
line_within text written shape behind split = absurd (wrong (47 ∷ 47 ∷ text) written behind Slash refl shape split (λ (e : shape_class shape ≡ Slash). cc))

-- a block comment at the front closes where the bytes after its beginning first do
pub block_closes : (text : List ℕ) → (written : List ℕ) → Shape written → (behind : List ℕ) → 47 ∷ 42 ∷ text ≡ written ++ behind → (size : ℕ) × (close_len text ≡ Some size) × (length written ≡ 2 + size)
block_closes text written (block t closes) behind split =
    let tail : text ≡ (t ++ 42 ∷ 47 ∷ []) ++ behind = cc in
    (length t + 2, ap close_len (tail ∙ append_assoc t (42 ∷ 47 ∷ []) behind) ∙ close_at t behind closes, omega (arith, length-append t (42 ∷ 47 ∷ [])))
block_closes text written (line all) behind split = absurd (let no : ◌≡◌ {A = ℕ} 42 47 = cc in omega (arith, no))
block_closes text written shape behind split = absurd (wrong (47 ∷ 42 ∷ text) written behind Slash refl shape split (λ (e : shape_class shape ≡ Slash). cc))

-- a slash alone is no piece
pub slash_none : (behind : List ℕ) → first_is 47 behind ≡ false → first_is 42 behind ≡ false → HaveNone (47 ∷ behind)
slash_none behind no_slash no_star written (line {text = t} all) after split = let tail : behind ≡ 47 ∷ (t ++ after) = cc in false≢true (sym no_slash ∙ ap (first_is 47) tail)
slash_none behind no_slash no_star written (block t closes) after split = let tail : behind ≡ 42 ∷ ((t ++ 42 ∷ 47 ∷ []) ++ after) = cc in false≢true (sym no_star ∙ ap (first_is 42) tail)
slash_none behind no_slash no_star written shape after split = wrong (47 ∷ behind) written after Slash refl shape split (λ (e : shape_class shape ≡ Slash). cc)
