pub mod Rows
pub mod Made
pub mod Steps
pub mod Sending
pub mod Blocks
pub mod BodyEnds
pub mod BodyCalls
pub mod Spends
