pub mod Reversed
pub mod Places
pub mod Numbered
pub mod Steps
pub mod Clashes
pub mod EachRule
pub mod EachPlaces
