-- The definitions that other files name, from one place.
pub use Rattle.action_code.specs.Tables.{buffer_at, has_map, has_table, is_of, is_of_another, is_reference_to, kind_of_table, machine_of, may_be_both, may_be_of, no_structure, same_sort, tables_of}
pub use Rattle.action_code.specs.Values.{bare, can_push, kind_of, kind_of_lines, kind_of_reference, names_line}
pub use Rattle.action_code.specs.Operations.{accepts, answered, is_address, is_line_in, is_port, is_state, is_table, line_answered, operands_of, sends_to, serves, takes_from}
unfoldable pub use Rattle.action_code.specs.Operations.{operations}
pub use Rattle.action_code.specs.Shapes.{empty_shape, operands_fit, same_shape}
pub use Rattle.action_code.specs.Sign.{bool, call_sign, can_send, field_of, field_through, int, local_kind, operation_sign, reads, result_operand, sign, structure_of, turns, wanted, writes}
pub use Rattle.action_code.specs.Ways.{Way, arrive, arrive_after, arrived, continues, inner_after, jump_way, made_after, next_way, no_arrival, shape_after, shape_of, target, ways_after, with_given, with_message, with_ways}
pub use Rattle.action_code.specs.Rules.{Broken, broken_from, broken_here, broken_in, broken_in_bodies, first_broken, has_operands, jumps_forward, least_broken, or_later, rule_at, rule_broken, stays_within}
pub use Rattle.action_code.specs.Fits.{Fits, are_numbered, is_numbered}
pub use Rattle.action_code.specs.EachPlace.{FitsBody, FitsEachPlace, KeepsRules, broken_at, broken_by, shape_before, ways_before, ways_from}
pub use Rattle.action_code.specs.Answers.{Answers}
pub use Rattle.action_code.specs.Table.{Holds}
