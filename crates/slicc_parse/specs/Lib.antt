pub mod Ends
pub mod Rows
pub mod Parsed
pub mod Prelude
