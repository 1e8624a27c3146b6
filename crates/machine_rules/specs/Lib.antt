pub mod MachinesIn
pub mod Ports
pub mod WantedTypes
pub mod Prelude
