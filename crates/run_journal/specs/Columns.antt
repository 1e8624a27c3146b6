-- The entry that a row is, with the columns beside the rows. Each kind of row says a place in a column, or nothing more than itself.
use Rattle.std.specs.Prelude.{◌≡◌, ◌<◌, ◌≤◌, ◌+◌, ◌*◌, ℕ, None, List, [], length, slice_index_or}
use Rattle.ruby_value.specs.declared.fault.Fault.TheVariants.{Invalid}
use Rattle.ruby_value.specs.declared.message.MsgNo.{MsgNo}
use Rattle.ruby_value.specs.declared.message.Sent.{Sent}
use Rattle.run_journal.specs.declared.entry.End.TheVariants as end
use Rattle.run_journal.specs.declared.entry.Entry.{Entry}
use Rattle.run_journal.specs.declared.entry.FireNote.{FireNote}
use Rattle.run_journal.specs.declared.entry.Entry.TheVariants as entry
use Rattle.run_journal.specs.declared.columns.Closing.{Closing}
use Rattle.run_journal.specs.declared.columns.Columns.{Columns}
use Rattle.run_journal.specs.declared.columns.Fire.{Fire}
use Rattle.run_journal.specs.declared.columns.Row.{Row}
use Rattle.run_journal.specs.declared.columns.Stop.{Stop}
use Rattle.run_journal.specs.declared.columns.What.{What}
use Rattle.run_journal.specs.declared.columns.What.TheVariants.{Fired, Moved, Idle, Full, Stopped, Turned, Issued, Closed}

-- what is read where a column has nothing, which never is
abbrev no_fire : Fire
no_fire = record { address = 0; controller = 0; lists = 0; state = 0; event = 0; next = 0 }

abbrev no_stop : Stop
no_stop = record { controller = 0; at = record { address = None; state = None; event = None; fault = Invalid } }

abbrev no_closing : Closing
no_closing = record { issued = 0; finding = None; verdict = None }

abbrev pub fire_at : Columns → ℕ → Fire
fire_at c k = slice_index_or c.fires.kept k no_fire

abbrev pub stop_at : Columns → ℕ → Stop
stop_at c k = slice_index_or c.stops.kept k no_stop

abbrev pub closing_at : Columns → ℕ → Closing
closing_at c k = slice_index_or c.closings.kept k no_closing

abbrev pub numbers_at : Columns → ℕ → List MsgNo
numbers_at c k = slice_index_or c.numbers.lists k []

abbrev pub sents_at : Columns → ℕ → List Sent
sents_at c k = slice_index_or c.sents.lists k []

abbrev pub note_of : Fire → FireNote
note_of f = record { address = f.address; state = f.state; event = f.event; next = f.next }

-- a transition with these lists
abbrev pub fired_by : ℕ → Fire → (consumed : List MsgNo) → (sent : List Sent) → (stalled woken recycled : List MsgNo) → Entry
fired_by cycle f consumed sent stalled woken recycled =
    entry.Fired cycle f.controller (note_of f) consumed sent stalled woken recycled

abbrev pub entry_by : Columns → ℕ → What → Entry
entry_by c cycle (Fired k) = fired_by cycle (fire_at c k) (numbers_at c (fire_at c k).lists) (sents_at c k) [] [] []
entry_by c cycle (Moved k) =
    fired_by cycle (fire_at c k) (numbers_at c (fire_at c k).lists) (sents_at c k)
    (numbers_at c ((fire_at c k).lists + 1)) (numbers_at c ((fire_at c k).lists + 2)) (numbers_at c ((fire_at c k).lists + 3))
entry_by c cycle (Idle controller) = entry.Ended cycle controller end.Idle
entry_by c cycle (Full controller) = entry.Ended cycle controller end.Full
entry_by c cycle (Stopped k) = entry.Ended cycle (stop_at c k).controller (end.Stop (stop_at c k).at)
entry_by c cycle Turned = entry.Turned cycle [] None None
entry_by c cycle (Issued k) = entry.Turned cycle (numbers_at c k) None None
entry_by c cycle (Closed k) = entry.Turned cycle (numbers_at c (closing_at c k).issued) (closing_at c k).finding (closing_at c k).verdict

abbrev pub entry_at : Columns → Row → Entry
entry_at c row = entry_by c row.cycle row.what

-- a transition's columns: one list of copies for each
abbrev pub AreEqualInLength : Columns → Type 0
AreEqualInLength c = length c.sents.lists ≡ length c.fires.kept

-- the columns have what a row reads
abbrev pub Fits : Columns → What → Type 0
Fits c (Fired k) = (k < length c.fires.kept) × ((fire_at c k).lists < length c.numbers.lists)
Fits c (Moved k) = (k < length c.fires.kept) × ((fire_at c k).lists + 3 < length c.numbers.lists)
Fits c (Idle controller) = Unit {0}
Fits c (Full controller) = Unit {0}
Fits c (Stopped k) = k < length c.stops.kept
Fits c Turned = Unit {0}
Fits c (Issued k) = k < length c.numbers.lists
Fits c (Closed k) = (k < length c.closings.kept) × ((closing_at c k).issued < length c.numbers.lists)

-- a list that goes on where another one ends
pub record GoesOn {X : Type 0} (old new : List X) : Type 0 where
  pub no_shorter : length old ≤ length new
  pub same : (k : ℕ) (d : X) → k < length old → slice_index_or new k d ≡ slice_index_or old k d

-- nothing was taken from the columns
pub record Extends (old new : Columns) : Type 0 where
  pub fires : GoesOn old.fires.kept new.fires.kept
  pub numbers : GoesOn old.numbers.lists new.numbers.lists
  pub sents : GoesOn old.sents.lists new.sents.lists
  pub stops : GoesOn old.stops.kept new.stops.kept
  pub closings : GoesOn old.closings.kept new.closings.kept

-- there is room for so many entries, with so many numbers and copies in their lists
pub record HasColumnRoom (entries numbers sents : ℕ) (c : Columns) : Type 0 where
  pub fires : entries ≤ c.fires.room
  pub number_lists : 4 * entries ≤ c.numbers.list_room
  pub numbers_fit : numbers ≤ c.numbers.item_room
  pub sent_lists : entries ≤ c.sents.list_room
  pub sents_fit : sents ≤ c.sents.item_room
  pub stops : entries ≤ c.stops.room
  pub closings : entries ≤ c.closings.room

-- room is left but for one entry with so many numbers and copies
abbrev pub LeavesRoom : (numbers sents : ℕ) → Columns → Columns → Type 0
LeavesRoom numbers sents old new =
    (e n s : ℕ) → HasColumnRoom (e + 1) (n + numbers) (s + sents) old → HasColumnRoom e n s new
