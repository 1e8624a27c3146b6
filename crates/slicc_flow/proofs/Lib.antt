mod Asked
pub mod Caps
pub mod Checked
pub mod FirstOf
pub mod Flowed
pub mod Judged
pub mod Marking
pub mod Reaching
pub mod Ways
pub mod FirstNames
pub mod PartLists
pub mod PartsOfBoxes
pub mod SendLists
