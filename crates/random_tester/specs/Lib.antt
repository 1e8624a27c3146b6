pub mod Answers
pub mod Law
pub mod Slot
pub mod State
pub mod Took
pub mod Turn
pub mod Prelude
