-- The definitions that other files name, from one place.
pub use Rattle.built_in_acts.specs.Values.{address, address_of_line, argument, block, controller, controllers, line_named, member, number, reference, truth}
pub use Rattle.built_in_acts.specs.Operators.{are_equal, difference, is_at_most, is_less, is_no_line, negation, product, sum}
unfoldable pub use Rattle.built_in_acts.specs.Operators.{field_of, with_field}
pub use Rattle.built_in_acts.specs.Machines.{home_in, index_in, is_in, range_of, small, with_numbers, with_range}
unfoldable pub use Rattle.built_in_acts.specs.Machines.{kept_number, place_of, placed_from, range_at}
pub use Rattle.built_in_acts.specs.Calls.{call_at}
unfoldable pub use Rattle.built_in_acts.specs.Calls.{calls}
pub use Rattle.built_in_acts.specs.BuiltIn.{called, line_used, of_set, of_values, on_controller, on_machines, on_messages, on_table}
unfoldable pub use Rattle.built_in_acts.specs.BuiltIn.{built_in, silent, told, used}
