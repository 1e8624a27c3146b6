-- The definitions that other files name, from one place.
pub use Rattle.body_meaning.specs.Reading.{Reading, reading}
pub use Rattle.body_meaning.specs.Things.{boolean, no_line, thing_of, value_in}
pub use Rattle.body_meaning.specs.Each.{each}
pub use Rattle.body_meaning.specs.Frames.{Ended, about_named, bind, bound_at, ended, is_named, leave, rebind, thing_about, thing_bound, with_entry, with_tbe}
unfoldable pub use Rattle.body_meaning.specs.Frames.{outermost}
pub use Rattle.body_meaning.specs.Operators.{joined, negated, number_made, settled, settled_by}
pub use Rattle.body_meaning.specs.Names.{initial_fields, line_field, member_at, member_in, member_value, message_field, message_of, named_everywhere, new_message, port_at, port_named, structure_field, thing_declared}
unfoldable pub use Rattle.body_meaning.specs.Names.{declared, own_number, parameter, port_thing, thing_got}
pub use Rattle.body_meaning.specs.CallNumbers.{block_call, cache_call, callback, changes_receiver, directory_call, entry_call, index_call, plain_call, port_call, read_callback, sequencer_call, set_call, stall_call, table_call, tbe_call, write_callback}
pub use Rattle.body_meaning.specs.CallRows.{number_among}
pub use Rattle.body_meaning.specs.Calls.{Calls, as_member, called_on, function_or, indexed_on, is_permission_call, member_among, numbered, on_table, permission_call, permission_of, plain_or, reference_at, trigger_of, value_call, with_receiver}
unfoldable pub use Rattle.body_meaning.specs.Calls.{free_call, index, method_call, named_call, thing_built, value_found}
pub use Rattle.body_meaning.specs.Expressions.{field_in, names_line, names_nothing, not_so, operand_step, operands, suffixed, suffixed_all, thing_in, value, value_step, values, variable_or}
unfoldable pub use Rattle.body_meaning.specs.Expressions.{field_at, field_through, negation_of, operated, value_behind, values_of, variable, with_value}
pub use Rattle.body_meaning.specs.Places.{at_place, before_last, field_place, last_of, name_behind, name_in, part_of, part_place, place_last, place_of, place_with, with_part, with_place}
unfoldable pub use Rattle.body_meaning.specs.Places.{line_place, place_behind}
pub use Rattle.body_meaning.specs.Statements.{about_after, after, all_done, block_in, called_or, evaluated, exec, fields_made, flow_of, if_done, last_alone, latency, others_done, otherwise_done, returned, row_done, sent, went_on, written_back}
unfoldable pub use Rattle.body_meaning.specs.Statements.{assigned, behind_alone, called_alone, changed, chosen, ends_by, enqueued, goes_on, peeked, scoped, stalled}
pub use Rattle.body_meaning.specs.Bodies.{answer_of, body_of, bound_formals, calls_of, frame_of, function_called, function_run, with_formal}
unfoldable pub use Rattle.body_meaning.specs.Bodies.{calls_within}
pub use Rattle.body_meaning.specs.Trying.{Pair, Trying, acts, ends, follow_pairs, follow_scan, looks_up, nothing_known, stop_at, stops}
unfoldable pub use Rattle.body_meaning.specs.Trying.{pairs_of, run_scan, then_try, with_known}
pub use Rattle.body_meaning.specs.Actions.{Pick, action_block, action_names, block_names, block_of, body_of_action, counts_for, goes_along, if_names, is_for_buffer, is_table, is_to, names_in, names_table, need, of_check, of_enqueue, others_names, otherwise_names, place_among, row_names, send_count, sends_for}
pub use Rattle.body_meaning.specs.Transition.{about, about_left, action_done, arguments_for, buffer_short, fired, found_tried, is_among, is_fewer, is_for, is_short, is_stall_among, known, lacks_room, next_asked, next_state, permission_set, read_state, row_tried, state_answered, state_argument, state_by, state_set, table_short, try, waiting}
pub use Rattle.body_meaning.specs.Scan.{Scanned, after_port, by_outcome, by_try, left_idle, pairs_tried, port_block, port_done, port_tried, ports_tried, scan, unless_fired}
pub use Rattle.body_meaning.specs.Round.{IsRoundOf}
