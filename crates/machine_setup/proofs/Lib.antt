mod BySymbols
pub mod Lawful
