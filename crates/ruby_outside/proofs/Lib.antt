pub mod Counts
pub mod Growth
pub mod Puts
pub mod Whole
