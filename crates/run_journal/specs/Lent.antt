-- The entry that is lent with its lists as slices.
use Rattle.std.specs.Prelude.{◌+◌, ℕ, length}
use Rattle.run_journal.specs.declared.entry.End.{End}
use Rattle.run_journal.specs.declared.entry.End.TheVariants as end
use Rattle.run_journal.specs.declared.entry.Entry.{Entry}
use Rattle.run_journal.specs.declared.entry.Entry.TheVariants as entry
use Rattle.run_journal.specs.declared.entry.FireNote.{FireNote}
use Rattle.run_journal.specs.declared.lent.EndRef.{EndRef}
use Rattle.run_journal.specs.declared.lent.EndRef.TheVariants.{Idle, Full, Stop}
use Rattle.run_journal.specs.declared.lent.EntryRef.{EntryRef}
use Rattle.run_journal.specs.declared.lent.EntryRef.TheVariants.{Fired, Ended, Turned}
use Rattle.run_journal.specs.declared.lent.FireLists.{FireLists}

abbrev pub end_of : EndRef → End
end_of Idle = end.Idle
end_of Full = end.Full
end_of (Stop stop) = end.Stop stop.now

-- the transition with these lists
abbrev pub fired_of : ℕ → ℕ → FireNote → FireLists → Entry
fired_of cycle controller note lists =
    entry.Fired cycle controller note lists.consumed.now lists.sent.now lists.stalled.now lists.woken.now lists.recycled.now

abbrev pub entry_of : EntryRef → Entry
entry_of (Fired cycle controller note lists) = fired_of cycle controller note lists
entry_of (Ended cycle controller e) = entry.Ended cycle controller (end_of e)
entry_of (Turned cycle issued finding verdict) = entry.Turned cycle issued.now finding verdict

-- how many numbers are in the lists, beside those that were sent
abbrev pub numbers_in : FireLists → ℕ
numbers_in lists = length lists.consumed.now + length lists.stalled.now + length lists.woken.now + length lists.recycled.now
