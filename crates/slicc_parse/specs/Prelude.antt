-- The definitions that other files name, from one place.
pub use Rattle.slicc_parse.specs.Ends.{IsEndAt, IsFileRead}
pub use Rattle.slicc_parse.specs.Rows.{body_parts, braces_parts, braces_row, closed_parts, closed_row, file_parts, file_row, head_row, items_parts, items_row, machine_parts, machine_row, object_row, plain_row, protocol_row, skipped_row, starred_row, typed_row, words_of_kinds, words_of_rules}
pub use Rattle.slicc_parse.specs.Parsed.{AreEndedOnce, AreWithinLimit, IsFileOf, IsParse}
