pub mod Acts
pub mod Answers
pub mod Exchange
pub mod Prelude
