pub mod Each
pub mod Ends
pub mod Blocks
pub mod Rows
pub mod Forms
pub mod Arms
pub mod PlaceForms
