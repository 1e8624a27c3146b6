pub mod Kinds
pub mod Names
pub mod Numbers
pub mod States
pub mod Types
pub mod Prelude
