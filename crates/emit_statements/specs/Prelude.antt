-- The definitions that other files name, from one place.
unfoldable pub use Rattle.emit_statements.specs.LineWrites.{WritesLine}
pub use Rattle.emit_statements.specs.StatementParts.{WritesArm, arm_closed, with_jump, ending_of, filled, filled_all, goes_on_after, line_or, message_at, named_block, operated_by, others_by, otherwise_by, set_aside}
