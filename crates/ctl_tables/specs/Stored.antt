-- The tables and states that a controller has, by the containers that keep them, and those that a scan's changes make of them.
-- `AreOf` says that each of the changes can be made in its turn, beginning with these tables.
use Rattle.std.specs.Prelude.{ℕ, ◌≤◌, List, length, map, reverse}
use Rattle.std.specs.FinMap as finmap
use Rattle.std.specs.List.{All}
use Rattle.std.specs.Ordering.{nat_cmp}
use Rattle.ruby_value.specs.Prelude.{with_all}
use Rattle.ctl_face.specs.Prelude.{Table}
use Rattle.ctl_tables.specs.declared.change.TableChange.{TableChange}
use Rattle.ctl_tables.specs.declared.change.TableChanges.{TableChanges}
use Rattle.ctl_tables.specs.declared.held.Tables.{Tables}
use Rattle.ctl_tables.specs.After.{after_changes, Replays}
use Rattle.ctl_tables.specs.Container.{table_of, HasRoom}

abbrev pub tables_of : Tables → List Table
tables_of s = map table_of s.tables.items

-- the changes of tables, the newest first
abbrev pub log_of : TableChanges → List TableChange
log_of changes = reverse changes.log.items

-- the states that were set, with their lines, the newest first
abbrev pub state_log_of : TableChanges → List (ℕ × ℕ)
state_log_of changes = reverse changes.states.items

-- the tables as a scan has changed them
abbrev pub tables_now : Tables → TableChanges → List Table
tables_now s changes = after_changes (log_of changes) (tables_of s)

-- the changes are changes of these tables
abbrev pub AreOf : TableChanges → Tables → Type 0
AreOf changes s = Replays (log_of changes) (tables_of s)

abbrev pub states_of : Tables → finmap.FinMap nat_cmp ℕ
states_of s = s.states.kept

-- the state of a line that has none in the map
abbrev pub default_of : Tables → ℕ
default_of s = s.default_state

-- the states as a scan has changed them
abbrev pub states_now : Tables → TableChanges → finmap.FinMap nat_cmp ℕ
states_now s changes = with_all (states_of s) (state_log_of changes)

-- there is room for all the changes
pub record HasRoomFor (changes : TableChanges) (s : Tables) : Type 0 where
  pub tables : All (HasRoom (length changes.log.items)) s.tables.items
  pub states : length changes.states.items ≤ s.states.room
