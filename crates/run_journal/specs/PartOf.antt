-- The entries of a journal that are one controller's, in their order: the transitions that it fired, and the ends of
-- its wake-ups. An entry of a turn is nobody's. The journal is this project's own; nothing here says that the entries
-- are those of a run.
use Rattle.std.specs.Prelude.{ℕ, Bool, false, List, ◌==◌, filter}
use Rattle.run_journal.specs.declared.entry.Entry.{Entry}
use Rattle.run_journal.specs.declared.entry.Entry.TheVariants.{Fired, Ended, Turned}

-- whether an entry is that controller's
abbrev pub is_of : ℕ → Entry → Bool
is_of controller (Fired cycle c note consumed sent stalled woken recycled) = c == controller
is_of controller (Ended cycle c end) = c == controller
is_of controller (Turned cycle issued finding verdict) = false

abbrev pub part_of : ℕ → List Entry → List Entry
part_of controller journal = filter (is_of controller) journal
