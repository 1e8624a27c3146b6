pub mod Ordered
pub mod Slotted
