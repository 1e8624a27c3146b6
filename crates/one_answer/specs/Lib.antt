pub mod OneAnswer
pub mod Prelude
