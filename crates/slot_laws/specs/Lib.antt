pub mod Slotted
pub mod Slots
pub mod Sends
pub mod Prelude
