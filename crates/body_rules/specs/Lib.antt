pub mod InScopes
pub mod MachinesIn
pub mod Arms
pub mod Ways
pub mod NamesInScopes
pub mod MissingBy
pub mod Prelude
