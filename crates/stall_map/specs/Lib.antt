pub mod Prepared
pub mod Slots
pub mod Stalls
pub mod Prelude
