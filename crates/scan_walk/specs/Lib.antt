pub mod Room
pub mod Prelude
