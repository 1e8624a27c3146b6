pub mod Attributes
pub mod Lent
pub mod LineSorts
pub mod Scopes
pub mod Table
pub mod Calls
pub mod Types
pub mod Prelude
