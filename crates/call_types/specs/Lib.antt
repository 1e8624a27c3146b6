pub mod Arguments
pub mod Called
pub mod Prelude
