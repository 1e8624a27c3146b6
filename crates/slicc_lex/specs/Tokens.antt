-- The tokens of a text, with their places, or the first place where it has none. The text is read piece by piece from its
-- first byte to its last, and each token goes from its first byte to right after its last one.
use Rattle.std.specs.Prelude.{◌≡◌, ◌≢◌, ◌⊎◌, ◌+◌, ◌^◌, ◌<◌, ◌≤◌, ◌++◌, ◌==◌, ◌||◌, ℕ, Bool, false, IsTrue, Result, Ok, Err, List, [], ◌∷◌, length, codes, pos, nat_eq, ◌≤ℤ◌}
use Rattle.std.specs.List.{list_all, starts_with}
use Rattle.slicc_ast.specs.declared.tree.token.TokenKind.{TokenKind}
use Rattle.slicc_ast.specs.declared.tree.token.TokenKind.TheVariants.{Name, Number, Quoted, Word, Sign, End}
use Rattle.slicc_ast.specs.Prelude.{is_printable}
use Rattle.slicc_lex.specs.declared.token.Token.{Token}
use Rattle.slicc_lex.specs.declared.fault.LexFault.{LexFault}
use Rattle.slicc_lex.specs.declared.fault.LexFault.TheVariants.{BadByte, OpenString, OpenComment, NumberTooLarge, NameTooLong, NoMemory}
use Rattle.slicc_lex.specs.declared.piece.Piece.TheVariants.{Gap, Lexeme}
use Rattle.slicc_lex.specs.Pieces.{IsNext, IsStuck}

-- a name has at most 128 bytes, a number is at most 2^63 - 1, and a string has printable bytes alone
abbrev pub IsWithinLimits : TokenKind → Type 0
IsWithinLimits (Name word) = length word ≤ 128
IsWithinLimits (Number n) = n ≤ℤ pos 9223372036854775807
IsWithinLimits (Quoted text) = IsTrue (list_all is_printable text)
IsWithinLimits (Word word) = Unit {0}
IsWithinLimits (Sign sign) = Unit {0}
IsWithinLimits End = Unit {0}

abbrev pub begins_with_quote : List ℕ → Bool
begins_with_quote [] = false
begins_with_quote (c ∷ cs) = (c == 34) || (c == 39)

abbrev pub begins_with_comment : List ℕ → Bool
begins_with_comment bytes = starts_with nat_eq bytes (codes "/*")

-- no token begins with the first of these bytes
pub record IsBadAtFront (bytes : List ℕ) : Type 0 where
  pub some : bytes ≢ []
  pub stuck : IsStuck bytes
  pub no_string : begins_with_quote bytes ≡ false
  pub no_comment : begins_with_comment bytes ≡ false

-- a string stands at the front, and its first byte that isn't printable is behind so many bytes of it
pub record IsBadInside (bytes : List ℕ) (before : ℕ) : Type 0 where
  pub text : List ℕ
  pub bad : ℕ
  pub later : List ℕ
  pub written : List ℕ
  pub rest : List ℕ
  pub next : IsNext bytes (Lexeme (Quoted (text ++ bad ∷ later))) written rest
  pub printable : IsTrue (list_all is_printable text)
  pub unprintable : is_printable bad ≡ false
  pub place : before ≡ 1 + length text

-- the piece at the front of the bytes, whose first one has this place, makes the fault
abbrev pub IsFault : ℕ → List ℕ → LexFault → Type 0
IsFault at bytes (BadByte place) =
    (IsBadAtFront bytes × (place ≡ at)) ⊎ ((before : ℕ) × IsBadInside bytes before × (place ≡ at + before))
IsFault at bytes (OpenString place) = IsStuck bytes × IsTrue (begins_with_quote bytes) × (place ≡ at)
IsFault at bytes (OpenComment place) = IsStuck bytes × IsTrue (begins_with_comment bytes) × (place ≡ at)
IsFault at bytes (NumberTooLarge place) =
    (n : ℕ) × (written : List ℕ) × (rest : List ℕ)
    × IsNext bytes (Lexeme (Number (pos n))) written rest × (2 ^ 63 ≤ n) × (place ≡ at)
IsFault at bytes (NameTooLong place) =
    (word : List ℕ) × (written : List ℕ) × (rest : List ℕ)
    × IsNext bytes (Lexeme (Name word)) written rest × (128 < length word) × (place ≡ at)
IsFault at bytes NoMemory = ⊥

-- a token that goes from one place to another in a file
abbrev pub token_at : ℕ → ℕ → ℕ → TokenKind → Token
token_at file start end kind = record { kind = kind; span = record { file = file; start = start; end = end } }

-- a token and then what was answered for the bytes behind it
abbrev pub with_token : Token → Result (List Token) LexFault → Result (List Token) LexFault
with_token token (Ok tokens) = Ok (token ∷ tokens)
with_token token (Err fault) = Err fault

-- The bytes, whose first one has this place in this file, have these tokens, of which the last is the end token, or this
-- is the first fault in them.
pub data Reads (file : ℕ) : ℕ → List ℕ → Result (List Token) LexFault → Type 0 where
  ends : {at : ℕ} → Reads file at [] (Ok (token_at file at at End ∷ []))
  skips : {at : ℕ} {bytes written rest : List ℕ} {answer : Result (List Token) LexFault}
      → IsNext bytes Gap written rest
      → Reads file (at + length written) rest answer
      → Reads file at bytes answer
  takes : {at : ℕ} {bytes written rest : List ℕ} {kind : TokenKind} {answer : Result (List Token) LexFault}
      → IsNext bytes (Lexeme kind) written rest
      → IsWithinLimits kind
      → Reads file (at + length written) rest answer
      → Reads file at bytes (with_token (token_at file at (at + length written) kind) answer)
  stops : {at : ℕ} {bytes : List ℕ} {fault : LexFault}
      → IsFault at bytes fault
      → Reads file at bytes (Err fault)
