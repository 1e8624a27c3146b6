-- The definitions that other files name, from one place.
pub use Rattle.machine_table.specs.Answers.{answer, state_count}
pub use Rattle.machine_table.specs.Built.{IsBuilt, no_memory, shared, tables}
pub use Rattle.machine_table.specs.Found.{AreNumbersOf, Finding, actions_among, found_by, found_in, found_name, found_next, found_with, written_with}
pub use Rattle.machine_table.specs.Ports.{buffer_seen, place_seen, port_seen}
pub use Rattle.machine_table.specs.TablesOf.{AreStateCountsOf, AreTablesOf, machines_in, rows_of_found, states_of_found}
