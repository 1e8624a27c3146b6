pub mod Faults
pub mod Files
pub mod Lawful
pub mod Plan
pub mod Put
pub mod Sink
pub mod Prelude
