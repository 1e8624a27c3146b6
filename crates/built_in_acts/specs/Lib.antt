pub mod Values
pub mod Operators
pub mod Machines
pub mod Calls
pub mod BuiltIn
pub mod Prelude
