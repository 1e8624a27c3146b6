pub mod BySymbols
pub mod Prelude
