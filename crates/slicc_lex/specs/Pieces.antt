-- The pieces that a text of SLICC is made of, blanks, comments and tokens, as they are written; and which piece stands
-- at the front of bytes: the longest that they begin with. Limits, as that of a name's length, are told elsewhere.
use Rattle.std.specs.Prelude.{◌≡◌, ◌≢◌, ◌⊎◌, ◌≤◌, ◌++◌, ◌==◌, ◌&&◌, ◌||◌, ℕ, Bool, false, not, IsTrue, List, [], ◌∷◌, length, codes, pos}
use Rattle.std.specs.List.{list_all}
use Rattle.slicc_ast.specs.declared.tree.token.TokenKind.{TokenKind}
use Rattle.slicc_ast.specs.declared.tree.token.TokenKind.TheVariants.{Name, Number, Quoted, Word, Sign, End}
use Rattle.slicc_ast.specs.declared.tree.token.Word.{Word as Reserved}
use Rattle.slicc_ast.specs.Prelude.{is_blank, is_letter, is_word_byte}
use Rattle.slicc_lex.specs.declared.piece.Piece.{Piece}
use Rattle.slicc_lex.specs.declared.piece.Piece.TheVariants.{Gap, Lexeme}
use Rattle.slicc_lex.specs.Words.{word_bytes}
use Rattle.slicc_lex.specs.Signs.{sign_bytes}
use Rattle.slicc_lex.specs.Numbers.{IsNumeral}

-- what a line goes on with: not a line feed
abbrev pub is_in_line : ℕ → Bool
is_in_line c = not (c == 10)

-- a blank
abbrev pub IsBlank : List ℕ → Type 0
IsBlank written = (c : ℕ) × IsTrue (is_blank c) × (written ≡ c ∷ [])

-- two slashes and what follows them in the line
abbrev pub IsLineComment : List ℕ → Type 0
IsLineComment written = (text : List ℕ) × (written ≡ codes "//" ++ text) × IsTrue (list_all is_in_line text)

-- a star and then a slash are in the bytes
abbrev pub has_close : List ℕ → Bool
has_close [] = false
has_close (c ∷ []) = false
has_close (c ∷ d ∷ cs) = (c == 42) && (d == 47) || has_close (d ∷ cs)

-- `/*`, and `*/` where it comes first after that
abbrev pub IsBlockComment : List ℕ → Type 0
IsBlockComment written = (text : List ℕ) × (written ≡ codes "/*" ++ text ++ codes "*/") × (has_close (text ++ codes "*") ≡ false)

-- a letter, then letters and digits
abbrev pub IsWord : List ℕ → Type 0
IsWord [] = ⊥
IsWord (c ∷ cs) = IsTrue (is_letter c) × IsTrue (list_all is_word_byte cs)

-- what a string in these quotes may go on with, which may still be a bad byte
abbrev pub is_inside : ℕ → ℕ → Bool
is_inside quote c = not (c == quote) && is_in_line c

-- the text stands in these quotes on one line, and has none of them in it
abbrev pub IsQuotedBy : ℕ → List ℕ → List ℕ → Type 0
IsQuotedBy quote text written =
    (written ≡ quote ∷ text ++ quote ∷ []) × IsTrue (list_all (is_inside quote) text)

-- these bytes are a way to write the token
abbrev pub IsWritten : TokenKind → List ℕ → Type 0
IsWritten (Name word) written = (written ≡ word) × IsWord word × ((reserved : Reserved) → word ≢ word_bytes reserved)
IsWritten (Number n) written = (value : ℕ) × (n ≡ pos value) × IsNumeral written value
IsWritten (Quoted text) written = IsQuotedBy 34 text written ⊎ IsQuotedBy 39 text written
IsWritten (Word word) written = written ≡ word_bytes word
IsWritten (Sign sign) written = written ≡ sign_bytes sign
IsWritten End written = ⊥

-- these bytes are a way to write the piece
abbrev pub IsPiece : Piece → List ℕ → Type 0
IsPiece Gap written = IsBlank written ⊎ IsLineComment written ⊎ IsBlockComment written
IsPiece (Lexeme kind) written = IsWritten kind written

-- the piece at the front of the bytes is this one, written so, and these bytes are behind it
pub record IsNext (bytes : List ℕ) (piece : Piece) (written rest : List ℕ) : Type 0 where
  pub split : bytes ≡ written ++ rest
  pub is_written : IsPiece piece written
  pub longest : (other : Piece) (front behind : List ℕ) → bytes ≡ front ++ behind → IsPiece other front → length front ≤ length written

-- the bytes begin with no piece
abbrev pub IsStuck : List ℕ → Type 0
IsStuck bytes = (piece : Piece) (front behind : List ℕ) → bytes ≡ front ++ behind → IsPiece piece front → ⊥
