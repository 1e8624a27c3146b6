pub mod Going
pub mod Law
pub mod Script
pub mod Samples
pub mod Prelude
