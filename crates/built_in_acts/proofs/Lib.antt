pub mod Told
pub mod Placing
pub mod Going
pub mod Cycles
