-- What a list of tables is after the changes of a log, whose newest change is the first of the list. A change that can't be
-- made, or is of a table that isn't there, changes nothing. `Replays` says that each change could be made in its turn, with a field
-- that is there.
use Rattle.std.specs.Prelude.{Option, None, Some, List, [], ◌∷◌, Result, Ok, Err, IsOk, IfSome, IsSomeAnd, ◌<◌, length, slice_get, slice_set}
use Rattle.ruby_value.specs.Prelude.{IsCache}
use Rattle.ctl_face.specs.Prelude.{Table, CacheTable, DirectoryTable, TbeTable, ParameterTable}
use Rattle.ruby_value.specs.declared.value.Value.{Value}
use Rattle.ctl_tables.specs.declared.change.Edit.{Edit}
use Rattle.ctl_tables.specs.declared.change.Edit.TheVariants as edit
use Rattle.ctl_tables.specs.declared.change.TableChange.{TableChange}
use Rattle.ctl_tables.specs.Change.{edit_in, kept_in}

abbrev pub or_same : {X E : Type 0} → X → Result X E → X
or_same old (Ok new) = new
or_same old (Err e) = old

-- a table after the change of it
abbrev pub table_after : TableChange → Table → Table
table_after c t = or_same t (edit_in c.edit c.line t)

abbrev pub with_change_in : TableChange → List Table → Option Table → List Table
with_change_in c ts None = ts
with_change_in c ts (Some t) = slice_set ts c.table (table_after c t)

abbrev pub with_change : TableChange → List Table → List Table
with_change c ts = with_change_in c ts (slice_get ts c.table)

unfoldable pub after_changes : List TableChange → List Table → List Table
after_changes [] ts = ts
after_changes (c ∷ older) ts = with_change c (after_changes older ts)

-- the sets of a cache are lawful, as they are in each program
abbrev pub IsTable : Table → Type 0
IsTable (CacheTable cache) = IsCache cache
IsTable (DirectoryTable directory) = Unit {0}
IsTable (TbeTable tbes) = Unit {0}
IsTable (ParameterTable values) = Unit {0}

-- the field that is written is one of the line's
abbrev pub HasFieldOf : Edit → Option (List Value) → Type 0
HasFieldOf (edit.Write field value) kept = IfSome kept (λ fields. field < length fields)
HasFieldOf _ kept = Unit {0}

-- the change can be made
abbrev pub CanEdit : TableChange → Table → Type 0
CanEdit c t = IsOk (edit_in c.edit c.line t) × HasFieldOf c.edit (kept_in t c.line)

abbrev pub CanChange : TableChange → List Table → Type 0
CanChange c ts = IsSomeAnd (slice_get ts c.table) (CanEdit c)

unfoldable pub Replays : List TableChange → List Table → Type 0
Replays [] ts = Unit {0}
Replays (c ∷ older) ts = CanChange c (after_changes older ts) × Replays older ts
