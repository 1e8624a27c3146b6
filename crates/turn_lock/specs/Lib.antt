pub mod Histories
pub mod Standing
pub mod Tickets
pub mod Plays
pub mod Between
pub mod Prelude
