pub mod Row
pub mod Call
pub mod Prelude
