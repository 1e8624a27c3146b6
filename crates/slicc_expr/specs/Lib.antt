pub mod Levels
pub mod Nodes
pub mod StatementParts
pub mod Prelude
