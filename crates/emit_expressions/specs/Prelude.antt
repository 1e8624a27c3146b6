-- The definitions that other files name, from one place.
pub use Rattle.emit_expressions.specs.Writes.{Adds}
unfoldable pub use Rattle.emit_expressions.specs.Writes.{AddsIfOk, Writes}
pub use Rattle.emit_expressions.specs.Places.{spot_code}
