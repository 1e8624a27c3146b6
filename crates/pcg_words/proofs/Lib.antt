mod Draws
pub mod Period
