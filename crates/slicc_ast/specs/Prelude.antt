-- The definitions that other files name, from one place.
pub use Rattle.slicc_ast.specs.Boxes.{Cast', Group', IsInvalid', IsValid', Negate', Not', Operation', Postfix'}
pub use Rattle.slicc_ast.specs.Bytes.{is_between, is_blank, is_letter, is_printable, is_word_byte}
pub use Rattle.slicc_ast.specs.Outline.{ArePlaced, IsPlaced, Outline, Parts, are_allowed, covering, is_allowed, kinds_in, kinds_of, last_end, no_span, node, none, part, provided, shape_in, shape_of, spans_in, spans_of}
pub use Rattle.slicc_ast.specs.Names.{balanced_list, balanced_row, is_loose, type_name}
pub use Rattle.slicc_ast.specs.Expressions.{args, args_list, args_row, expr, has_suffix, level_of, list_level, mode_parts, more_args, more_args_row, operand_list, operand_row, operator_level, operator_sign, row_level, suffix_list, suffix_row}
pub use Rattle.slicc_ast.specs.Declarations.{formal_list, is_skipped, member_list, more_formals, optional_name, pair_list, pair_value, skipped, state_list, symbol_list}
pub use Rattle.slicc_ast.specs.Statements.{block_end, block_outline, block_part, else_if_row, else_part, if_outline, latency_parts, optional_expr, print_word, stmt, stmt_list, stmt_row}
pub use Rattle.slicc_ast.specs.Machines.{action_list, decl, decl_list, function, function_body, literal_parts, more_names, name_list, next_parts, object, parameter_list, type_parts}
pub use Rattle.slicc_ast.specs.Trees.{item_list, protocol_parts, tree, tree_parts}
pub use Rattle.slicc_ast.specs.Spans.{else_if_spans, operand_spans, state_spans, suffix_spans, symbol_spans}
pub use Rattle.slicc_ast.specs.TokenKinds.{end_of_text, functional_name, kind_of, machine_type, name_kind, number, other_name, quoted, sign_kind, word_kind}
pub use Rattle.slicc_ast.specs.Form.{Form, all_forms}
pub use Rattle.slicc_ast.specs.Form.Form.{arguments, body, conditional, conjunction, constant, declaration, declaration_end, equality, expression, file, functional_end, machine_name, member_end, name_end, named_end, opening, order, otherwise, postfix, primary, product, statement, statement_end, sum, transition_end, unary}
pub use Rattle.slicc_ast.specs.Parts.{assign, braces, colon, comma, conjunctions, disjunctions, end_token, equalities, machine_type_name, names_of, next_state, number_token, of, operators, optional, orders, parentheses, plain_name, prefixed, products, repeated, semicolon, skipped_name, string, sums, type, unbracketed, value, words, ◌▸◌}
pub use Rattle.slicc_ast.specs.Ahead.{first_of_constant, first_of_expression, first_of_form, first_of_opening, further_of_form}
pub use Rattle.slicc_ast.specs.Written.{openers, written, written_rows}
pub use Rattle.slicc_ast.specs.Table.{table}
pub use Rattle.slicc_ast.specs.Spelled.{spelling}
pub use Rattle.slicc_ast.specs.Kinds.{are_disjoint, has, is_ahead, is_subset}
pub use Rattle.slicc_ast.specs.Grammar.{Grammar, Row, Rows, first_of, further_of, is_nullable, nestings_of}
pub use Rattle.slicc_ast.specs.Grammar.Row.{done, form, many, maybe, nested}
pub use Rattle.slicc_ast.specs.Grammar.Rows.{end, next, up}
pub use Rattle.slicc_ast.specs.Matches.{Begins, Derives, Extent, IsViable, Matches}
pub use Rattle.slicc_ast.specs.Matches.Extent.{Front, Whole}
pub use Rattle.slicc_ast.specs.Matches.Matches.{alternative, ended, one, stopped}
pub use Rattle.slicc_ast.specs.Faults.{IsFirstFault, IsLongest, IsOpenerTooDeep, IsStop, IsWithin, Stop}
pub use Rattle.slicc_ast.specs.Faults.IsStop.{not_viable, one_too_deep, opener_too_deep, too_short, whole}
pub use Rattle.slicc_ast.specs.Faults.Stop.{Bad, Deep, Passed, Short}
pub use Rattle.slicc_ast.specs.Predictive.{IsPredictive, agrees_with, are_different, differs_from_all, is_decided, is_form_predictive, is_predictive}
pub use Rattle.slicc_ast.specs.Reader.{Fails, Passes, Stops, followed_by, refusal}
pub use Rattle.slicc_ast.specs.Reader.Stops.{by_default, chosen, read, refused, taken, too_deep, unformed, unopened}
pub use Rattle.slicc_ast.specs.Choices.{choices_of}
pub use Rattle.slicc_ast.specs.Same.{Covers, HaveSameLists, joined}
