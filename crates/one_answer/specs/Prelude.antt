-- The definitions that other files name, from one place.
pub use Rattle.one_answer.specs.OneAnswer.{IsAnsweredBy, IsOneAnswer}
