pub use Rattle.ruby_answers.specs.Call
pub use Rattle.ruby_answers.specs.Find
pub use Rattle.ruby_answers.specs.Headline
pub use Rattle.ruby_answers.specs.Record
pub use Rattle.ruby_answers.specs.Right
pub use Rattle.ruby_answers.specs.Words
pub mod Prelude
