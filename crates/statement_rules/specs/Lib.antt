pub mod Bindings
pub mod Elses
pub mod Prelude
