-- A journal: its entries, and beside them for how many more there is room, and for how many numbers and copies in their lists.
use Rattle.std.specs.Prelude.{◌<◌, ◌≤◌, ◌+◌, ◌^◌, ℕ, List}
use Rattle.run_journal.specs.declared.entry.Entry.{Entry}

pub record JournalRoom : Type 0 where
  pub entries : ℕ
  pub numbers : ℕ
  pub sents : ℕ

pub record Journaled : Type 0 where
  pub entries : List Entry
  pub room : JournalRoom

-- there is room for so many entries with so many numbers and copies in their lists
pub record HasRoomFor (entries numbers sents : ℕ) (r : JournalRoom) : Type 0 where
  pub entries_fit : entries ≤ r.entries
  pub numbers_fit : numbers ≤ r.numbers
  pub sents_fit : sents ≤ r.sents

-- no room was lost but that for so many entries, with so many numbers and copies
pub record KeepsRoom (entries numbers sents : ℕ) (old new : JournalRoom) : Type 0 where
  pub entries_left : old.entries ≤ new.entries + entries
  pub numbers_left : old.numbers ≤ new.numbers + numbers
  pub sents_left : old.sents ≤ new.sents + sents

-- 32 bits can count them, as they can all that a journal has room for
pub record HasFew (entries numbers sents : ℕ) : Type 0 where
  pub few_entries : entries < 2 ^ 32
  pub few_numbers : numbers < 2 ^ 32
  pub few_sents : sents < 2 ^ 32
