-- The definitions that other files name, from one place.
pub use Rattle.trace_print.specs.Adding.{IsAdded}
pub use Rattle.trace_print.specs.Ends.{account_line, final_line, rest_lines, verdict_line, verdict_words}
pub use Rattle.trace_print.specs.Entries.{end_lines, entry_lines, fault_word, fault_words, fired_line, stop_line}
pub use Rattle.trace_print.specs.Lines.{hexadecimal, known, line_of, numbered, or_dash, place, spaced}
pub use Rattle.trace_print.specs.Code.{body_line, body_lines, code_lines, controllers_in, instr_line, instr_name, lines_from, operand_words, reference_words, truth_digit, value_words}
pub use Rattle.trace_print.specs.Names.{action_name, action_word, controller_machine, controller_word, event_word, machine_at, machine_of, machine_part, machine_word, member_name, state_word}
pub use Rattle.trace_print.specs.Operands.{words_of}
pub use Rattle.trace_print.specs.Pieces.{AreLinesPut, IsLinePut, all_put, as_one_piece, cut_in_piece, in_pieces, line_cut, line_put, text_of}
pub use Rattle.trace_print.specs.Rows.{action_words, next_word, row_line, row_lines}
pub use Rattle.trace_print.specs.Words.{word_bytes}
