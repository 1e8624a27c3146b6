pub mod Gives
pub mod OfKind
pub mod Typed
pub mod Fields
pub mod Operations
pub mod Turns
pub mod Places
pub mod Bodies
