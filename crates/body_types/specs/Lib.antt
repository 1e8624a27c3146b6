pub mod Environments
pub mod Found
pub mod Lines
pub mod Views
pub mod Prelude
