pub mod Answers
pub mod Built
pub mod Found
pub mod Ports
pub mod TablesOf
pub mod Prelude
