-- The tables of a controller by their numbers: one of them, and what becomes of the controller where one is changed or
-- the change ends in a fault. A number without a table changes nothing; no program names one.
use Rattle.std.specs.Prelude.{ℕ, Option, None, Some, Result, Ok, Err, slice_get, slice_set}
use Rattle.ruby_value.specs.declared.fault.Fault.{Fault}
use Rattle.ctl_face.specs.LocalView.{LocalView}
use Rattle.ctl_face.specs.Table.{Table}

abbrev pub table_at : LocalView → ℕ → Option Table
table_at v table = slice_get v.ctl.tables table

abbrev pub with_table : LocalView → ℕ → Table → LocalView
with_table v table changed = record v { ctl = record v.ctl { tables = slice_set v.ctl.tables table changed } }

abbrev pub after_change : LocalView → ℕ → Result Table Fault → Result LocalView Fault
after_change v table (Ok changed) = Ok (with_table v table changed)
after_change v table (Err fault) = Err fault

abbrev pub change_if_there : LocalView → ℕ → (Table → Result Table Fault) → Option Table → Result LocalView Fault
change_if_there v table change None = Ok v
change_if_there v table change (Some t) = after_change v table (change t)

abbrev pub changed_table : LocalView → ℕ → (Table → Result Table Fault) → Result LocalView Fault
changed_table v table change = change_if_there v table change (table_at v table)
