-- The lines of a table that share places: those of one set of a cache, and all of a TBE table. How many places they have, how many
-- of them are there, and how many places are left. The lines of a directory and of the parameters need none.
use Rattle.std.specs.Prelude.{ℕ, ◌+◌, ◌-◌, ◌%◌, Bool, true, false, Option, None, Some, List, [], ◌∷◌, length, ◌==◌, ◌&&◌, if◌then◌else◌}
use Rattle.std.specs.FinMap as map
use Rattle.ruby_value.specs.Prelude.{set_of}
use Rattle.ctl_face.specs.Prelude.{Table, CacheTable, DirectoryTable, TbeTable, ParameterTable}
use Rattle.ctl_tables.specs.declared.change.Edit.{Edit}
use Rattle.ctl_tables.specs.declared.change.Edit.TheVariants as edit
use Rattle.ctl_tables.specs.declared.change.TableChange.{TableChange}
use Rattle.ctl_tables.specs.Frames.{Frame, CacheFrame, DirectoryFrame, TbeFrame, ParameterFrame, frame_of}

abbrev pub share_places : Option Frame → ℕ → ℕ → Bool
share_places (Some (CacheFrame ways sets)) a b = a % sets == b % sets
share_places (Some (DirectoryFrame initial)) a b = false
share_places (Some (TbeFrame entries)) a b = true
share_places (Some ParameterFrame) a b = false
share_places None a b = false

abbrev pub places_of : Frame → ℕ
places_of (CacheFrame ways sets) = ways
places_of (DirectoryFrame initial) = 0
places_of (TbeFrame entries) = entries
places_of ParameterFrame = 0

-- the lines that share places with a line, itself too where it is there
abbrev pub lines_beside : Table → ℕ → ℕ
lines_beside (CacheTable cache) line = length (set_of cache line)
lines_beside (DirectoryTable directory) line = 0
lines_beside (TbeTable tbes) line = map.len tbes.held
lines_beside (ParameterTable values) line = 0

abbrev pub room_in : Option Table → ℕ → ℕ
room_in None line = 0
room_in (Some t) line = places_of (frame_of t) - lines_beside t line

-- how many lines there are after a change, where there were so many
abbrev pub lines_with : Edit → ℕ → ℕ
lines_with (edit.Write field value) lines = lines
lines_with (edit.Fill fields) lines = lines
lines_with (edit.Add fields) lines = lines + 1
lines_with edit.Remove lines = lines - 1
lines_with edit.Use lines = lines

-- the change is of the table of that number, and of a line that shares places with that line
abbrev pub is_beside : Option Frame → ℕ → ℕ → TableChange → Bool
is_beside frame table line c = table == c.table && share_places frame c.line line

abbrev pub lines_changed : (frame : Option Frame) (table line : ℕ) → TableChange → ℕ → ℕ
lines_changed frame table line c lines = if is_beside frame table line c then lines_with c.edit lines else lines

-- how many lines share places with a line after the changes of a log, the newest of which is the first, where there were so many
unfoldable pub lines_after : (frame : Option Frame) (table line before : ℕ) → List TableChange → ℕ
lines_after frame table line before [] = before
lines_after frame table line before (c ∷ older) = lines_changed frame table line c (lines_after frame table line before older)
