mod Edits
mod Lanes
pub mod Numbers
mod Orders
pub mod Placed
mod Woken
