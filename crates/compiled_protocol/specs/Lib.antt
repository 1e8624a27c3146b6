pub mod Machine
pub mod Scan
pub mod May
pub mod Ended
pub mod Room
pub mod Prelude
