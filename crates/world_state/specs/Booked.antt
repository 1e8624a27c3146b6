-- What has happened in a run so far: the events of its history, the entries of its journal, and beside them for how many more of each
-- there is room.
use Rattle.std.specs.Prelude.{ℕ, List}
use Rattle.run_journal.specs.declared.entry.Entry.{Entry}
use Rattle.run_journal.specs.declared.event.Event.{Event}
use Rattle.run_journal.specs.Prelude.{JournalRoom}

pub record Booked : Type 0 where
  pub history : List Event
  pub journal : List Entry
  pub event_room : ℕ
  pub entry_room : JournalRoom
