pub mod Collected
pub mod Counting
pub mod Declaring
pub mod Lookups
pub mod Names
pub mod Repeated
pub mod Prelude
