pub mod Heads
pub mod Carries
pub mod Serves
pub mod Prelude
