-- The definitions that other files name, from one place.
pub use Rattle.run_journal.specs.AreFinals.{AreFinals}
pub use Rattle.run_journal.specs.IsBefore.{IsBefore}
pub use Rattle.run_journal.specs.LastState.{last_state, next_state}
pub use Rattle.run_journal.specs.PartOf.{is_of, part_of}
pub use Rattle.run_journal.specs.Tally.{tally}
pub use Rattle.run_journal.specs.Journaled.{HasFew, HasRoomFor, Journaled, JournalRoom, KeepsRoom}
pub use Rattle.run_journal.specs.Lent.{end_of, entry_of, fired_of, numbers_in}
pub use Rattle.run_journal.specs.Numbers.{consumed_in, consumed_numbers, sent_in, sent_numbers}
