pub mod Lends
pub mod formers
pub mod Numbering
pub mod Finds
pub mod Prelude
