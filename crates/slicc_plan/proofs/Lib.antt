mod Accepted
pub mod Few
pub mod NoPairShared
pub mod Firsts
mod MachinesFound
pub mod NoReferences
pub mod OneAnswer
mod Phases
pub mod Receivers
pub mod Room
pub mod SetupFields
pub mod SetupNetworks
mod SetupParts
pub mod ExpressionSpans
mod Subjects
pub mod Counted
pub mod CountsOfSymbols
pub mod Machines
pub mod MachinesKept
pub mod Messages
pub mod Names
mod Networks
mod NumberedTypes
pub mod Numbering
pub mod Pairs
pub mod Reading
mod Received
mod Rooms
pub mod There
pub mod TwoTransitions
pub mod Types
