pub mod CommandLine
pub mod Numbers
pub mod Asked
pub mod Within
pub mod Prelude
