mod BlockScopes
mod Counts
mod Fields
mod Found
mod GlobalRepeats
mod LocalPlaces
mod MachinePlaces
mod OnceEach
mod Parts
mod Places
mod Repeats
mod ScopeSizes
mod Steps
pub mod FirstOfAll
