pub mod Members
pub mod Prelude
