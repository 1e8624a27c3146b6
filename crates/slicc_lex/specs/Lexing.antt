-- What the steps of the lexer answer: how many bytes a stretch has, and the piece at the front of bytes or its fault.
use Rattle.std.specs.Prelude.{◌≡◌, ◌⊎◌, ◌+◌, ◌≤◌, ◌==◌, ◌&&◌, ℕ, cond, Option, Some, None, Result, List, [], ◌∷◌, length, take, drop, MatchResult}
use Rattle.std.specs.Option.{option_map}
use Rattle.std.specs.List.{prefix_len}
use Rattle.slicc_ast.specs.declared.tree.token.Sign.{Sign}
use Rattle.slicc_ast.specs.declared.tree.token.Sign.TheVariants.{OpenBrace, CloseBrace, OpenParenthesis, CloseParenthesis, OpenBracket, CloseBracket, Semicolon, Colon, Comma, Dot, Equals, Assign, Equal, Unequal, Less, Greater, LessOrEqual, GreaterOrEqual, Plus, Minus, Star, Not, And, Or}
use Rattle.slicc_lex.specs.declared.token.Token.{Token}
use Rattle.slicc_lex.specs.declared.fault.LexFault.{LexFault}
use Rattle.slicc_lex.specs.declared.fault.LexFault.TheVariants.{NoMemory}
use Rattle.slicc_lex.specs.declared.piece.Piece.{Piece}
use Rattle.slicc_lex.specs.declared.piece.Piece.TheVariants.{Gap, Lexeme}
use Rattle.slicc_lex.specs.Pieces.{IsNext}
use Rattle.slicc_lex.specs.Numbers.{is_hexadecimal}
use Rattle.slicc_lex.specs.Tokens.{IsWithinLimits, IsFault, token_at}

-- how many bytes there are up to the first star and slash, these two included
abbrev pub close_len : List ℕ → Option ℕ
close_len [] = None
close_len (c ∷ []) = None
close_len (c ∷ d ∷ cs) = cond ((c == 42) && (d == 47)) (Some 2) (option_map (λ n. 1 + n) (close_len (d ∷ cs)))

-- the sign of two bytes
abbrev pub pair_sign : ℕ → ℕ → Option Sign
pair_sign c d =
    cond ((c == 58) && (d == 61)) (Some Assign) (cond ((c == 61) && (d == 61)) (Some Equal)
    (cond ((c == 33) && (d == 61)) (Some Unequal) (cond ((c == 60) && (d == 61)) (Some LessOrEqual)
    (cond ((c == 62) && (d == 61)) (Some GreaterOrEqual) (cond ((c == 38) && (d == 38)) (Some And)
    (cond ((c == 124) && (d == 124)) (Some Or) None))))))

-- the sign of a byte and the one behind it
abbrev pub pair_front : ℕ → List ℕ → Option Sign
pair_front c [] = None
pair_front c (d ∷ ds) = pair_sign c d

-- the sign of one byte
abbrev pub single_sign : ℕ → Option Sign
single_sign c =
    cond (c == 123) (Some OpenBrace) (cond (c == 125) (Some CloseBrace) (cond (c == 40) (Some OpenParenthesis)
    (cond (c == 41) (Some CloseParenthesis) (cond (c == 91) (Some OpenBracket) (cond (c == 93) (Some CloseBracket)
    (cond (c == 59) (Some Semicolon) (cond (c == 58) (Some Colon) (cond (c == 44) (Some Comma)
    (cond (c == 46) (Some Dot) (cond (c == 61) (Some Equals) (cond (c == 60) (Some Less)
    (cond (c == 62) (Some Greater) (cond (c == 43) (Some Plus) (cond (c == 45) (Some Minus)
    (cond (c == 42) (Some Star) (cond (c == 33) (Some Not) None))))))))))))))))

-- how many hexadecimal digits follow `0x` at the front
abbrev pub hexadecimal_size : List ℕ → ℕ
hexadecimal_size [] = 0
hexadecimal_size (c ∷ []) = 0
hexadecimal_size (c ∷ d ∷ cs) = cond ((c == 48) && (d == 120)) (prefix_len is_hexadecimal cs) 0

-- a gap has no limits
abbrev pub IsPieceWithinLimits : Piece → Type 0
IsPieceWithinLimits Gap = Unit {0}
IsPieceWithinLimits (Lexeme kind) = IsWithinLimits kind

-- the piece of so many bytes stands at the front of the bytes, and is within its limits
pub record Stands (bytes : List ℕ) (piece : Piece) (size : ℕ) : Type 0 where
  pub next : IsNext bytes piece (take size bytes) (drop size bytes)
  pub within : IsPieceWithinLimits piece
  pub some : 1 ≤ size
  pub inside : size ≤ length bytes

-- the piece at the front of the bytes with its size, or its fault, memory aside
abbrev pub Finds : ℕ → List ℕ → Result (Piece × ℕ) LexFault → Type 0
Finds at bytes answer =
    MatchResult answer (λ found. Stands bytes found.0 found.1) (λ fault. (fault ≡ NoMemory) ⊎ IsFault at bytes fault)

-- the tokens that a piece between two places of a file makes
abbrev pub tokens_of : ℕ → ℕ → ℕ → Piece → List Token
tokens_of file start end Gap = []
tokens_of file start end (Lexeme kind) = token_at file start end kind ∷ []
