-- What one change of a log tells of a line of a table: whether the line is there, or the value of one of its fields. The newest
-- change that tells it is the one that counts. A use is made only of a line that is
-- there, and tells no field.
use Rattle.std.specs.Prelude.{ℕ, Bool, true, false, Option, None, Some, ◌==◌, ◌&&◌, slice_get}
use Rattle.ruby_value.specs.declared.value.Value.{Value}
use Rattle.ctl_tables.specs.declared.change.Edit.{Edit}
use Rattle.ctl_tables.specs.declared.change.Edit.TheVariants as edit
use Rattle.ctl_tables.specs.declared.change.TableChange.{TableChange}

-- of a field, or else of the line
abbrev pub is_of_field : Option ℕ → ℕ → Bool
is_of_field None written = true
is_of_field (Some field) written = field == written

abbrev pub edit_tells : Option ℕ → Edit → Bool
edit_tells field (edit.Write written value) = is_of_field field written
edit_tells field (edit.Fill fields) = true
edit_tells field (edit.Add fields) = true
edit_tells field edit.Remove = true
edit_tells field edit.Use = false

abbrev pub tells : ℕ → ℕ → Option ℕ → TableChange → Bool
tells table line field c = (table == c.table && line == c.line) && edit_tells field c.edit

abbrev pub told_value : Edit → ℕ → Option Value
told_value (edit.Write written value) field = Some value
told_value (edit.Fill fields) field = slice_get fields field
told_value (edit.Add fields) field = slice_get fields field
told_value edit.Remove field = None
told_value edit.Use field = None

abbrev pub told_there : Edit → Bool
told_there (edit.Write written value) = true
told_there (edit.Fill fields) = true
told_there (edit.Add fields) = true
told_there edit.Remove = false
told_there edit.Use = true
