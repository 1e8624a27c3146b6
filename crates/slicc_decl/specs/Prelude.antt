-- The definitions that other files name, from one place.
pub use Rattle.slicc_decl.specs.Members.{action_parts, action_row, members_parts, members_row, pair_parts, skipped_member_row, state_parts, state_row, structure_parts, structure_row, symbol_parts, symbol_row, transition_inside}
