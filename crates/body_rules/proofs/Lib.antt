mod Lists
mod Walks
pub mod EndRows
pub mod ReturnRows
pub mod WayLists
mod MissingNames
mod NameWalks
