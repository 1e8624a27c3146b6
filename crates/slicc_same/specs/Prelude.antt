-- The definitions that other files name, from one place.
pub use Rattle.slicc_same.specs.Alike.{alike, alike_in, alike_kind, all_alike, same_parts, same_shape, sign_number, word_number}
pub use Rattle.slicc_same.specs.AlikeItems.{alike_else, alike_else_if, alike_expr, alike_name, alike_operand, alike_part, alike_state, alike_stmt, alike_suffix, alike_symbol}
