pub mod Stalls
pub mod Short
