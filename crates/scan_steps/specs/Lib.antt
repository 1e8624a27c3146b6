pub mod TriesAs
pub mod Prelude
