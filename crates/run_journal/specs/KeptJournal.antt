-- What holds of a journal's rows, columns and counts.
use Rattle.std.specs.Prelude.{◌≡◌, ◌<◌, ◌≤◌, ◌*◌, ◌^◌, ℕ, List, length, map}
use Rattle.std.specs.List.{All}
use Rattle.run_journal.specs.declared.columns.Columns.{Columns}
use Rattle.run_journal.specs.declared.columns.Row.{Row}
use Rattle.run_journal.specs.Columns.{entry_at, AreEqualInLength, Fits, HasColumnRoom}
use Rattle.run_journal.specs.Journaled.{JournalRoom}
use Rattle.run_journal.specs.Numbers.{consumed_numbers, sent_numbers}
use Rattle.run_journal.specs.declared.entry.Entry.{Entry}

abbrev pub entries_of : Columns → List Row → List Entry
entries_of c rows = map (entry_at c) rows

abbrev pub FitsRow : Columns → Row → Type 0
FitsRow c row = Fits c row.what

-- the counts are those of the entries, and each list has fewer numbers than 32 bits can count
pub record AreCounts (entries : List Entry) (sent consumed : ℕ) : Type 0 where
  pub sent_is : sent ≡ length (sent_numbers entries)
  pub consumed_is : consumed ≡ length (consumed_numbers entries)
  pub sent_few : sent ≤ 2 ^ 32 * length entries
  pub consumed_few : consumed ≤ 2 ^ 32 * length entries

pub record IsKeptJournal (rows : List Row) (columns : Columns) : Type 0 where
  pub fit : All (FitsRow columns) rows
  pub lengths : AreEqualInLength columns

pub record IsWrittenJournal (rows : List Row) (columns : Columns) (sent consumed : ℕ) (row_room : ℕ) (room : JournalRoom) : Type 0 where
  pub kept : IsKeptJournal rows columns
  pub few : length rows < 2 ^ 32
  pub counts : AreCounts (entries_of columns rows) sent consumed
  pub rows_fit : room.entries ≤ row_room
  pub columns_fit : HasColumnRoom room.entries room.numbers room.sents columns
