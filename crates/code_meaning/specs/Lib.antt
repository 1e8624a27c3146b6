pub mod Held
pub mod Stepping
pub mod Running
pub mod Kinds
pub mod Typed
pub mod Answers
pub mod Setups
pub mod Prelude
