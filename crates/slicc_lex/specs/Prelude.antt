-- The definitions that other files name, from one place.
pub use Rattle.slicc_lex.specs.Words.{word_bytes}
pub use Rattle.slicc_lex.specs.Signs.{sign_bytes}
pub use Rattle.slicc_lex.specs.Numbers.{AreHexadecimal, IsDecimal, IsNumeral, digit_value, is_digit, is_hexadecimal, number_of}
pub use Rattle.slicc_lex.specs.Pieces.{IsNext, IsPiece, IsQuotedBy, IsStuck, IsWord, IsWritten, has_close, is_in_line, is_inside}
pub use Rattle.slicc_lex.specs.Tokens.{IsBadInside, IsFault, IsWithinLimits, Reads, begins_with_comment, begins_with_quote, ends, skips, stops, takes, token_at, with_token}
pub use Rattle.slicc_lex.specs.Spells.{Spells, SpellsNode, token_kinds, token_spans}
pub use Rattle.slicc_lex.specs.Syntax.{AreEnded, IsBadAt, IsDeepAt, IsReadAs, IsStoppedAt, nesting_limit, symbols}
pub use Rattle.slicc_lex.specs.Places.{column_of, line_of}
pub use Rattle.slicc_lex.specs.Classes.{BeginsWith, class_of, is_quote}
pub use Rattle.slicc_lex.specs.Lexing.{Finds, IsPieceWithinLimits, Stands, close_len, hexadecimal_size, pair_front, pair_sign, single_sign, tokens_of}
