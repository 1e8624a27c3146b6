-- The definitions that other files name, from one place.
pub use Rattle.body_rules.specs.InScopes.{broken_within}
pub use Rattle.body_rules.specs.MachinesIn.{IsMachineIn}
pub use Rattle.body_rules.specs.Arms.{arm_ends, arm_returns, return_at, wrong_among}
pub use Rattle.body_rules.specs.Ways.{ways_in, ways_of}
pub use Rattle.body_rules.specs.NamesInScopes.{wrong_names_within, wrong_state_of, wrong_states}
pub use Rattle.body_rules.specs.MissingBy.{missing_by, missing_with}
