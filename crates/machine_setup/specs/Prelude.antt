-- The definitions that other files name, from one place.
pub use Rattle.machine_setup.specs.BySymbols.{buffer_by, default_of, default_state_by, fields_at, fields_of, first_values, kinds_of, kinds_of_ranges, line_of, setup_by, table_by, tables_by, values_by, values_of_ranges}
