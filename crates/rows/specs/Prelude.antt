-- The definitions that other files name, from one place.
pub use Rattle.rows.specs.Row.{ending_of, row_of, status_line}
pub use Rattle.rows.specs.Call.{IsRow}
