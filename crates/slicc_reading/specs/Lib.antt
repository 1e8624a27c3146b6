pub mod Reading
pub mod Answers
pub mod Attributes
pub mod Brackets
pub mod Prelude
