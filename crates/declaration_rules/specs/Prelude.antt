-- The definitions that other files name, from one place.
pub use Rattle.declaration_rules.specs.Judging.{broken_in, field_default, field_defaults_of, refused_of, unknown_of, unknown_uses}
pub use Rattle.declaration_rules.specs.Members.{members_in}
pub use Rattle.declaration_rules.specs.Numbers.{base_of, digits_in, is_right_in, read_from}
pub use Rattle.declaration_rules.specs.PairValues.{bad_attribute, bad_pair, told_bad}
