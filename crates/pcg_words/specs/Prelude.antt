-- The definitions that other files name, from one place.
pub use Rattle.pcg_words.specs.Below.{below}
pub use Rattle.pcg_words.specs.Position.{Position, next_position}
unfoldable pub use Rattle.pcg_words.specs.Word.{generator_after, word}
