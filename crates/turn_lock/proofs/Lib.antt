pub mod Histories
pub mod Crossing
mod Views
mod Keeps
mod Meets
mod Stages
mod Between
