pub mod Writes
pub mod Parts
pub mod Places
pub mod Prelude
