-- The definitions that other files name, from one place.
pub use Rattle.protocol_symbols.specs.Lines.{line_of}
pub use Rattle.protocol_symbols.specs.Parts.{AddBodies, AddObjects, AddRest}
