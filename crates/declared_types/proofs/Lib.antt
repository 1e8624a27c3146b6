pub mod Index
pub mod NameParts
pub mod ScopeTables
