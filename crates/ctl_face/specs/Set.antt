-- A field that is written through a reference: the line has it, and its other fields and all other lines are as they
-- were; or the fault of a reference whose line isn't there. Writing doesn't count as a use of the line.
use Rattle.std.specs.Prelude.{ℕ, Option, None, Some, List, Result, Ok, Err, slice_set}
use Rattle.ruby_value.specs.declared.fault.Fault.{Fault}
use Rattle.ruby_value.specs.declared.fault.Fault.TheVariants.{Reference}
use Rattle.ruby_value.specs.declared.value.Ref.{Ref}
use Rattle.ruby_value.specs.declared.value.Value.{Value}
use Rattle.ctl_face.specs.FieldsIn.{fields_in, with_fields_in}
use Rattle.ctl_face.specs.LocalView.{LocalView}
use Rattle.ctl_face.specs.Table.{Table}
use Rattle.ctl_face.specs.Tables.{changed_table}

abbrev pub table_with_field : Table → ℕ → ℕ → Value → Option (List Value) → Result Table Fault
table_with_field t line field value None = Err Reference
table_with_field t line field value (Some fields) = Ok (with_fields_in t line (slice_set fields field value))

abbrev pub set : LocalView → Ref → ℕ → Value → Result LocalView Fault
set v r field value = changed_table v r.table (λ t. table_with_field t r.line field value (fields_in t r.line))
