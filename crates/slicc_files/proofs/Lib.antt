mod Folders
mod OnePlacing
mod OneSpelling
mod ReadTexts
mod WantedItems
mod TreeTexts
mod Stepping
pub mod OneText
pub mod OneGathering
pub mod OneNameEach
pub mod Told
pub mod Ways
pub mod Bare
pub mod Rows
pub mod Places
pub mod FromNames
pub mod FromBalanced
pub mod FromDeclarations
pub mod FromExpressions
pub mod FromStatements
pub mod FromMachines
pub mod FromTrees
pub mod OneTree
