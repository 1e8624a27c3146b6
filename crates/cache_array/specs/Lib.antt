pub mod Holds
pub mod Prelude
