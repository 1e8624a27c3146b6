pub mod Arriving
pub mod Going
pub mod Counting
pub mod Issuing
pub mod Taking
mod Ranges
