-- The definitions that other files name, from one place.
pub use Rattle.machine_rules.specs.MachinesIn.{IsMachineIn, found_within}
pub use Rattle.machine_rules.specs.Ports.{wrong_port}
pub use Rattle.machine_rules.specs.WantedTypes.{wanted_of, wanted_present}
