pub mod LineWrites
pub mod StatementParts
pub mod Prelude
