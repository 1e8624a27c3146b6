pub mod PairPlaces
pub mod Tables
pub mod Prelude
