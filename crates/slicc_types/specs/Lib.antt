pub mod Judged
pub mod Prelude
