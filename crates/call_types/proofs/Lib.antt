pub mod Firsts
pub mod OwnTypes
pub mod Steps
pub mod Machines
pub mod Split
