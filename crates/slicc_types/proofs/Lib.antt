pub mod Lists
mod Phases
