-- The definitions that other files name, from one place.
pub use Rattle.body_walk.specs.Parts.{called, leaf, left_frame, of_operand, operation, unary_of, value_made}
unfoldable pub use Rattle.body_walk.specs.Parts.{thing_made}
unfoldable pub use Rattle.body_walk.specs.CallsDo.{CallsDo}
