-- The definitions that other files name, from one place.
pub use Rattle.body_code.specs.Segments.{Segment, fork, guard, just, nothing, ◌⨾◌}
pub use Rattle.body_code.specs.Kinds.{buffer_declared, code_kind, entry_kind, has_lines, has_tbes, kind_in, lines_kind, machine_declared, null, null_kind, place_of, reference_kind, sort_of, state_kind, table_declared, tables_declared, tbe_kind, values_structure}
pub use Rattle.body_code.specs.Pieces.{Piece, after, giving, known, or_none, then}
pub use Rattle.body_code.specs.Names.{declared_read, home_of, home_read, member_pushed, name_read, port_read, read_everywhere, value_read}
pub use Rattle.body_code.specs.Fields.{field_among, field_by, field_in, field_numbered, field_read, field_through}
pub use Rattle.body_code.specs.Calls.{answer_left, called_on, formals_in, formals_of, function_at, function_body_number, function_called, index, indexed_on, left_of, method_call, named_call, numbered_call, operated, operation_left, permission_body_number, permission_called, permission_machine, plain_or, result_of, value_call}
pub use Rattle.body_code.specs.Expressions.{all_arguments, arguments_by, compared, joined, kind_joined, kind_left, kind_written, made, operands, operation_by, piece, piece_behind, suffixed, suffixed_all, suffixed_by}
pub use Rattle.body_code.specs.Locals.{Slot, declared, field_kinds, kept_for, scratch_for, with_kinds, with_name}
pub use Rattle.body_code.specs.Lines.{Line, behind, closed, dropped, ends, followed_by, goes_on, in_block, with_locals, within}
pub use Rattle.body_code.specs.Spots.{Spot, AtLine, AtLocal, AtPart, Nowhere, assigned_at, changed_at, kind_at, spot_behind, spot_of, spot_with}
pub use Rattle.body_code.specs.Statements.{Ending, all_lines, assigned, changed, entry_slot, evaluated, if_line, line, others_line, otherwise_line, row_line, tbe_slot, triggered, written_back}
pub use Rattle.body_code.specs.Bodies.{about_kinds, about_names, action_code, asked_code, body_with, function_code, handed_on, permission_code, plain_body, port_code, read_code, rest_code, rest_codes, settling_code, transition_kinds, whole}
pub use Rattle.body_code.specs.Order.{callees_of, numbers_from, order_of, plain_numbers, with_round}
pub use Rattle.body_code.specs.Programs.{called_bodies, chains, first_chain, machines_declared, next_function, numbered_from, numbers_at, program_of, roots, structures_declared}
