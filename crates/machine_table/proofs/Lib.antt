mod AllPorts
mod Behind
mod NumbersOfNames
mod AmongParts
pub mod TablesOfMachines
mod StateCounts
