-- The definitions that other files name, from one place.
pub use Rattle.code_meaning.specs.Held.{Held, Step, On, To, Over, innermost}
pub use Rattle.code_meaning.specs.Stepping.{Bodies, argument_count, arguments_on, arity, called, code_step, fetched, given_back, kept_of, kinds_of, multiplied, negated, of_one_sort, on_stack, opened, operated, opposite, read_of, returned, stop_of, subtracted, summed, tested, triggered, with_number, written}
pub use Rattle.code_meaning.specs.Running.{bodies_below, enter, entered, exec, follow}
unfoldable pub use Rattle.code_meaning.specs.Running.{run_body}
pub use Rattle.code_meaning.specs.Kinds.{are_of_kinds, has_lines_of, is_end_of, is_line_of, is_of_kind, is_reference_of}
pub use Rattle.code_meaning.specs.Setups.{IsBuffer, IsBufferAt, IsDeclared, IsTable, IsTableAt, place_of, sort_of}
pub use Rattle.code_meaning.specs.Typed.{IsTyped, are_messages}
pub use Rattle.code_meaning.specs.Answers.{HoldsOfAnswer, IsAnswer}
