pub mod Tries
pub mod Rounds
pub mod Stays
pub mod Sent
