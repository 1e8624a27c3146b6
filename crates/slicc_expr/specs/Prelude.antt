-- The definitions that other files name, from one place.
pub use Rattle.slicc_expr.specs.Levels.{IsOperator, IsSimple, cast_head, cast_inner, cast_part, chain, chains, enclosed, form_at, kinds_at, longer_kinds, mode_part, simple_kinds}
pub use Rattle.slicc_expr.specs.Nodes.{is_some, operand_parts, operands_before, operation_node, postfix_node, suffixes_before}
pub use Rattle.slicc_expr.specs.StatementParts.{AreElseIfs, IsPrintWord, assert, branch, branch_parts, branches_end, calling_words, check_allocate, condition_parts, else_if_parts, else_ifs_parts, enqueue_head, enqueue_head_parts, enqueue_statement, error, expression_end, is_else_if, last_parts, name_outline, named_value, named_value_parts, nesting_words, opening_value, other_branches_parts, peek_head, peek_head_parts, peek_statement, port_and_message, port_and_message_parts, print_kinds, print_statement, print_word, return_form, signs_behind_name, stall_and_wait, statement_words, statements_end, statements_parts, value_after, value_after_parts, value_end}
