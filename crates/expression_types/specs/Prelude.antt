-- The definitions that other files name, from one place.
pub use Rattle.expression_types.specs.Known.{all_known, is_called, known, known_given}
pub use Rattle.expression_types.specs.Lists.{all_arguments, all_operands, all_suffixes}
