-- In which order the lines of a set of a cache were used, the least recently used first, after the changes of a log: a change that
-- adds a line, takes it out or uses it takes it from its place, and one that adds or uses it puts it at the end.
use Rattle.std.specs.Prelude.{ℕ, ◌%◌, Bool, true, false, not, Option, None, Some, List, [], ◌∷◌, ◌++◌, map, ◌==◌, ◌&&◌, if◌then◌else◌}
use Rattle.std.specs.List.{filter, list_any}
use Rattle.ruby_value.specs.Prelude.{Line}
use Rattle.ctl_tables.specs.declared.change.Edit.{Edit}
use Rattle.ctl_tables.specs.declared.change.Edit.TheVariants as edit
use Rattle.ctl_tables.specs.declared.change.TableChange.{TableChange}
use Rattle.ctl_tables.specs.Frames.{Frame, CacheFrame, DirectoryFrame, TbeFrame, ParameterFrame}

abbrev pub numbers_of : List Line → List ℕ
numbers_of lines = map (λ (l : Line). l.0) lines

abbrev pub share_set : Option Frame → ℕ → ℕ → Bool
share_set (Some (CacheFrame ways sets)) a b = a % sets == b % sets
share_set (Some (DirectoryFrame initial)) a b = false
share_set (Some (TbeFrame entries)) a b = false
share_set (Some ParameterFrame) a b = false
share_set None a b = false

abbrev pub edit_moves : Edit → Bool
edit_moves (edit.Write field value) = false
edit_moves (edit.Fill fields) = false
edit_moves (edit.Add fields) = true
edit_moves edit.Remove = true
edit_moves edit.Use = true

abbrev pub edit_uses : Edit → Bool
edit_uses (edit.Write field value) = false
edit_uses (edit.Fill fields) = false
edit_uses (edit.Add fields) = true
edit_uses edit.Remove = false
edit_uses edit.Use = true

-- the change takes the line of that table from its place
abbrev pub moves : ℕ → ℕ → TableChange → Bool
moves table line c = (table == c.table && edit_moves c.edit) && line == c.line

-- the change puts its line at the end of the set of that line
abbrev pub uses_beside : Option Frame → ℕ → ℕ → TableChange → Bool
uses_beside frame table line c = (table == c.table && edit_uses c.edit) && share_set frame c.line line

abbrev pub used_by : Option Frame → ℕ → ℕ → TableChange → List ℕ
used_by frame table line c = if uses_beside frame table line c then c.line ∷ [] else []

abbrev pub order_with : Option Frame → ℕ → ℕ → TableChange → List ℕ → List ℕ
order_with frame table line c order = filter (λ x. not (moves table x c)) order ++ used_by frame table line c

-- the order in the set of a line after the changes of a log, the newest of which is the first
unfoldable pub order_after : Option Frame → ℕ → ℕ → List ℕ → List TableChange → List ℕ
order_after frame table line order [] = order
order_after frame table line order (c ∷ older) = order_with frame table line c (order_after frame table line order older)

-- no change of the log takes the line from its place
abbrev pub stays_in : ℕ → List TableChange → ℕ → Bool
stays_in table log line = not (list_any (moves table line) log)

-- of the lines that a log, the oldest change of which is the first, puts at the end of the set of a line, the first one that no
-- later change takes from there
abbrev pub first_used : Option Frame → ℕ → ℕ → List TableChange → Option ℕ
first_used frame table line [] = None
first_used frame table line (c ∷ later) =
    if uses_beside frame table line c && stays_in table later c.line then Some c.line else first_used frame table line later
