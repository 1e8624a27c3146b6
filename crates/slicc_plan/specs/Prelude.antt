-- The definitions that other files name, from one place.
pub use Rattle.slicc_plan.specs.AllRules.{AreAbout, Common, IsAccepted, IsPlanOf, IsToldOf, broken_rules, common_part, of_bodies, of_declarations, of_machines, rule}
pub use Rattle.slicc_plan.specs.Attributes.{Attribute, attribute_in, attributes, digit_value, digits_number, first_attribute, has_attribute, is_attribute_word, is_digit, is_hexadecimal, is_within, is_word, number_in_range, number_value, spelled_number}
pub use Rattle.slicc_plan.specs.Blocks.{all_row_locals, blocks_in, body_locals, body_scopes, if_blocks, if_locals, local_of, locals_in, others_blocks, others_locals, row_blocks, row_locals}
pub use Rattle.slicc_plan.specs.BodyParts.{Names, action_bodies, action_in, arguments_parts, assignment, block_parts, bodies_of, body_of, body_with, call_in, call_part, change_in, changes_more, changing, check_in, check_part, directory_names, expr_parts, free_changes, function_in, if_parts, is_directory, is_one_of, is_table_type, name_in, name_of_type, names_of_written, number_in, operands_parts, optional_parts, others_parts, otherwise_parts, row_parts, stmt_parts, suffix_parts, suffixes_parts, table_changes, table_names, value_changes, with_name, with_written, written_actions, written_functions, written_ports}
pub use Rattle.slicc_plan.specs.BodySizes.{function_size, large_among, large_at, large_bodies, size_or_none, size_with, whole_size}
pub use Rattle.slicc_plan.specs.BrokenBodies.{action_environment, broken_bodies, broken_function, broken_in_declaration, broken_in_machine, broken_port, environment, formal_name, formal_names, function_environment, port_environment, wrong_formal, wrong_type_in}
pub use Rattle.slicc_plan.specs.BrokenDeclarations.{IsAnswered, broken_declarations, refusal_of}
pub use Rattle.slicc_plan.specs.BrokenMachines.{broken_machines}
pub use Rattle.slicc_plan.specs.Buffers.{BufferIn, Place, PortOn, attribute_number, buffer_in, buffer_named, buffer_of, buffers_of, from_network, is_same_known, is_same_scope, own, place_by, port_on, ports_of, to_network, virtual_network}
pub use Rattle.slicc_plan.specs.BuiltIn.{NamedType, built_in_types, is_among, is_same_type, is_table_nature, members_of, message_sizes, nature_of, permissions, request_fields, request_types, type_number}
pub use Rattle.slicc_plan.specs.BuiltInCalls.{Call, Change, anywhere, calls, in_actions, is_call, no_change, of_block, of_lines, of_receiver, permission_call, permission_reading}
pub use Rattle.slicc_plan.specs.CallTypes.{Given, Typed, a_field, answer_of, broken_in, built_in_call, built_in_named, built_in_receiver, call_named, call_on, call_unless, declared_call, events_type, formal_wanted, found_index, found_method, function_call, index_call, is_call_on, is_told, line_wanted, may_write, may_write_field, method_call, named_call, no_field, no_place, not_called, not_writable, plain, plain_call, receiver_number, receiver_of, states_type, structure_on, table_receiver, type_of_line, value_receiver, wanted_by, wanted_for, wrong_argument, wrong_arguments, wrong_change, wrong_count, wrong_line_type, wrong_new_line}
pub use Rattle.slicc_plan.specs.CallsBetween.{IsReaching, Reaches, call_circles, calls_at, calls_or_none, circle_at, circles_among, circles_from, directly, is_reached, reaches_within, through}
pub use Rattle.slicc_plan.specs.Counts.{counts_of, is_written, numbers_below, pairs_of}
pub use Rattle.slicc_plan.specs.CountsOfSymbols.{HasCounts, counts_by, events_by, member_count, pairs_by, states_by, transition_pairs}
pub use Rattle.slicc_plan.specs.Declarations.{Declaration, Scope, action, declared_in, everywhere, first_named, formal, function, function_name, function_span, global_declarations, is_external, is_named, is_text, item_declarations, local, machine, machine_declarations, machine_in, machine_names, machines_of, member, member_name, name_of, named_declarations, object, parameter, place_of, state, states, symbol, wide_scopes, within}
pub use Rattle.slicc_plan.specs.Environment.{BodySort, Bound, Environment, action_names, binding, bound_as, declared_value, fixed, is_allowed, known_in_bodies, line_name, meaning_named, meaning_of_found, names_everywhere, no_type, of_action, of_function, of_port, type_named, value_named, value_outside, wrong_meaning, wrong_type_name, wrong_value_name}
pub use Rattle.slicc_plan.specs.ExpressionTypes.{arguments_typed, broken_where, built_in_field, cast_meaning, cast_to, enumeration_members, field_declared, field_in, fields_scope, found_field, from_operand, given_at, is_enumeration_nature, joined, member_among, member_type, operands_typed, operator_type, span_of, suffix_typed, suffixes_typed, typed, variable_type, wanted_left, wanted_right, written_as}
pub use Rattle.slicc_plan.specs.Few.{HasFewMachines, HasFewParts, HasFewTypes}
pub use Rattle.slicc_plan.specs.FieldTypes.{FieldIn, all_fields, field_type, fields_of, fields_within, may_be_field, refused_field, refused_field_types, refused_for}
pub use Rattle.slicc_plan.specs.InitialFields.{field_kind, field_kinds, initial_fields, initial_of, initial_value, member_written, message_kinds, request_kinds, structure_fields, value_by, value_written}
pub use Rattle.slicc_plan.specs.JudgedStatements.{after, assigned, body_judged, broken_latency, checked, declared, enqueued, if_judged, in_enqueue, in_peek, in_type, is_peek_allowed, judged, local_meaning, others_judged, otherwise_judged, out_type, peeked, returned, row_judged, stalled, statements_judged, wrong_local_type, wrong_message_type}
pub use Rattle.slicc_plan.specs.Limits.{all_declarations, beyond, beyond_in_body, beyond_in_declaration, beyond_in_machine, beyond_in_scope, built_in_enumerations, event_members, fields_in, is_action, is_counted_function, is_counted_structure, is_enumeration, is_events, is_field, is_machine, is_object, is_port, is_sequencer, is_states, limit_passed, limits_passed, machine_limits, members_in, members_of_found, most_enumerations, most_fields, most_machines, most_objects, most_of_each, most_ports, most_sequencers, most_structures, state_members, with_its_own}
pub use Rattle.slicc_plan.specs.MachineAmong.{machines_among}
pub use Rattle.slicc_plan.specs.MachineParts.{at_end_of_first, is_empty, missing_machine, missing_parts, missing_parts_in}
pub use Rattle.slicc_plan.specs.MachineValues.{line_kind, literal_value, reference_in, reference_of_kind, reference_of_type, value_in, value_of_kind, values_of, written_value}
pub use Rattle.slicc_plan.specs.Machines.{actions_of, directory_structure, each_once, entry_structure, function_found, function_named, in_each, in_each_from, includes, is_beside_main, is_directory_entry, is_entry, is_tbe, next_number, number_among, numbers_among, own_structures, rows, structure_in, tbe_structure, transition_in, transitions_of, with_number, written, written_of}
pub use Rattle.slicc_plan.specs.Meanings.{Meaning, address_or_line_of, agree, answer_of_type, any_in_port, any_line, any_out_port, any_value, anything, bare_line, bare_line_fits, comparable, fits, incoming, incoming_of_type, is_answer_type, is_comparable, is_line, is_message, is_number, is_object_type, is_value, like_it, line_of_structure, new_line_of, no_line, no_line_fits, object_of_type, of_built_in, one_of, only_no_line, outgoing, outgoing_of_type, table_fits, table_of, told, unfit, unknown, unless, value, value_fits}
pub use Rattle.slicc_plan.specs.MessageTypes.{is_on, is_on_network, network_type, port_message, receivers_field, type_at}
pub use Rattle.slicc_plan.specs.Networks.{all_ports, all_ports_from, are_from_one, differ, differing_after, doubled_after, doubled_in, has_destination, has_sequencer, is_destination, is_mandatory, is_no_request, is_one_network, is_one_own_buffer, is_own, is_sent, is_sent_nowhere, is_wrong_way, networks_broken, port_broken, wrong_networks, wrong_ports_in}
pub use Rattle.slicc_plan.specs.Order.{IsFirstBroken, IsFirstOf, comes_before, earlier_of, earlier_of_both, first_after, first_of, is_less, number_of, rank_in, rank_of, second_rank, subject_of}
pub use Rattle.slicc_plan.specs.Prototypes.{told_unless, unknown_built_in, unknown_built_ins, unknown_built_ins_in, unknown_method, unknown_prototype, unknown_structure}
pub use Rattle.slicc_plan.specs.NextStates.{answers_next, asks_next, is_asked, unanswered_at, unanswered_in, unanswered_stars}
pub use Rattle.slicc_plan.specs.ReadOnly.{asked_functions, call_of, changes_among, changes_at, reached_changes, reading_calls, reading_changes}
pub use Rattle.slicc_plan.specs.Returns.{ReturnAt, body_ends, ends, if_ends, if_returns, missing_returns, no_return, others_end, others_returns, returns_in, row_ends, row_returns, wrong_ends, wrong_returns, wrong_ways, wrong_ways_in}
pub use Rattle.slicc_plan.specs.Scopes.{bodies_in, function_scopes, global_scopes, inner_scopes, machine_bodies, member_scopes, scopes_within, structure_scopes}
pub use Rattle.slicc_plan.specs.Setups.{AreSizesOf, HasTypeOf, NamesReceivers, attributes_of, buffer_by, buffer_place, buffer_setups, cache_size, default_state, first_state, is_ordered, is_parameters, kinds_on, opening_value, parameter_table, range_values, set_value, setup_in, setup_of, table_of_lines, table_setup, table_size, tables_from, tbe_size, values_from}
pub use Rattle.slicc_plan.specs.StateFunctions.{alone, are_wanted, is_own_states, is_own_structure, is_wanted, line_where, own_state, state_functions_in, taken_to_permit, taken_to_read, taken_to_write, told_at, unlike, wrong_state_functions}
pub use Rattle.slicc_plan.specs.SymbolsOf.{machines_from}
unfoldable pub use Rattle.slicc_plan.specs.SymbolsOf.{symbols_of}
pub use Rattle.slicc_plan.specs.SymbolsOfMachines.{action_symbol, action_symbols, buffer_of_place, buffer_symbol, buffer_symbols, formal_symbol, function_symbol, function_symbols, function_with_body, in_port_symbol, kind_in, line_number, number_of_found, numbered_from, out_port_symbol, permission_number, permissions_found, port_on_buffer, sequencer_in, sequencer_name, table_of_sort, table_symbol, transition_symbol}
unfoldable pub use Rattle.slicc_plan.specs.SymbolsOfMachines.{machine_symbols}
pub use Rattle.slicc_plan.specs.SymbolsOfTypes.{built_in_enumeration, built_in_symbols, enumeration_symbol, enumeration_symbols, field_of_type, field_symbol, field_symbols, owner, request_symbol, structure_declared, structure_symbol, structure_symbols}
pub use Rattle.slicc_plan.specs.TableNeeds.{checks_at, checks_of, checks_or_none, needs, needs_of}
pub use Rattle.slicc_plan.specs.Tables.{line_structure, table_in, table_sort, tables_of, written_entries}
pub use Rattle.slicc_plan.specs.TransitionNames.{listed_next, missing_among, missing_in, not_there, wrong_names, wrong_names_in, wrong_permission, wrong_permissions}
pub use Rattle.slicc_plan.specs.TwiceDeclared.{declaration_told, first_with, globally_repeated_after, names_twice_declared, repeated, repeated_after, stands_for_built_in, takes_built_in_name, told_after, told_globally, twice_declared}
pub use Rattle.slicc_plan.specs.TwoTransitions.{share_pair, shared_after, shared_pairs, shared_pairs_in}
pub use Rattle.slicc_plan.specs.TypeNumbers.{ScopedDeclaration, built_in_kind, declared_enumerations, declared_number, declared_structures, declares, default_found, default_member, default_number, is_default_of, is_its, is_known_as, kind_or_bool, made_in, made_with_its_own, member_number, no_structure, own_default, plain_kind, reference_kind, request_number, scoped_declarations, structure_number, value_kind}
pub use Rattle.slicc_plan.specs.Types.{KnownType, built_in, declared_type, enumerated, external_type, global_type, is_built_in, nature_in, structure_type, structured, table_named, table_or_none, type_in, type_of_found, type_where}
pub use Rattle.slicc_plan.specs.UnknownTypes.{TypeUse, formal_use, formal_uses, function_uses, has_no_body, is_unknown, member_uses, state_use, unknown_in, unknown_types, unknown_use, use_of, uses_in}
pub use Rattle.slicc_plan.specs.Values.{bad_attributes, bad_buffer_attributes, bad_entries, bad_field_default, bad_field_defaults, bad_literal, bad_object_attributes, bad_own_default, bad_value, bad_values, bad_values_in, bad_values_of, default_name, default_names, is_built_in_default, is_either, is_member_word, is_number_within, is_right_default, is_right_literal, literal_span}
pub use Rattle.slicc_plan.specs.Lawful.{CarriesOneMessage, HasEntries, HasNetworks, HasNumberedTypes, HasNumbers, ReceivesOnce, is_from}
pub use Rattle.slicc_plan.specs.Numbering.{HasOneNumbering, HasSymbols, need_by, rows_by}
