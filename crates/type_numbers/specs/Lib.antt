pub mod Fields
pub mod MessageTypes
pub mod Numbered
pub mod Prelude
pub mod Small
