pub mod Judging
pub mod Members
pub mod Numbers
pub mod PairValues
pub mod Prelude
