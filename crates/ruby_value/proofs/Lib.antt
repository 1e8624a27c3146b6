pub mod CacheEdits
pub mod CacheSets
pub mod Contained
pub mod Entries
pub mod Fronts
mod Members
pub mod Ordered
mod Words
