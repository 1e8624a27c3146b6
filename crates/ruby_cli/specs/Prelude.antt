-- The definitions that other files name, from one place.
pub use Rattle.ruby_cli.specs.Call.{IsAnswered}
pub use Rattle.ruby_cli.specs.Words.{asked_by}
