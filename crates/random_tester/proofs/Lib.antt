pub mod Opening
pub mod Taking
pub mod Waiting
