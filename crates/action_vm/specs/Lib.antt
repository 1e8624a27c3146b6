pub mod Stacks
pub mod Pops
pub mod Served
pub mod Frames
pub mod Places
pub mod Outcome
pub mod Prelude
