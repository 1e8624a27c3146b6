pub mod Gathering
pub mod Names
pub mod Reads
pub mod Steps
pub mod Texts
pub mod Prelude
