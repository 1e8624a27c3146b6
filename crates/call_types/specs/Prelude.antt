-- The definitions that other files name, from one place.
pub use Rattle.call_types.specs.Arguments.{after_arguments, not_indexed, wrong_at}
pub use Rattle.call_types.specs.Called.{call_for, has_permissions, machines_in}
