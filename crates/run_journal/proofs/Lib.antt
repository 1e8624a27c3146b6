pub mod FinalStates
mod KeptRows
mod LastStates
mod ListedLists
mod MoreColumns
mod PartStates
mod SomeFinals
