pub mod Slots
pub mod Window
pub mod Needs
pub mod Prelude
