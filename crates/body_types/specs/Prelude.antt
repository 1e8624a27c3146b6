-- The definitions that other files name, from one place.
pub use Rattle.body_types.specs.Environments.{IsEnvironment, bound_of, environment_of, sort_of}
pub use Rattle.body_types.specs.Found.{Found, all_given_of, found_of, given_of, typed_of}
pub use Rattle.body_types.specs.Lines.{AreLines}
pub use Rattle.body_types.specs.Views.{meaning_of, type_if, wanted_of, written_of}
