-- A field that is read through a reference: its value, or the fault of a reference whose line isn't there. gem5 has
-- undefined behaviour there; the fault is this project's own.
use Rattle.std.specs.Prelude.{ℕ, Option, List, Result, slice_get}
use Rattle.std.specs.Option.{option_and_then, ok_or}
use Rattle.ruby_value.specs.declared.fault.Fault.{Fault}
use Rattle.ruby_value.specs.declared.fault.Fault.TheVariants.{Reference}
use Rattle.ruby_value.specs.declared.value.Ref.{Ref}
use Rattle.ruby_value.specs.declared.value.Value.{Value}
use Rattle.ctl_face.specs.FieldsIn.{fields_in}
use Rattle.ctl_face.specs.LocalView.{LocalView}
use Rattle.ctl_face.specs.Tables.{table_at}

-- the fields of the line that a reference names
abbrev pub fields_behind : LocalView → Ref → Option (List Value)
fields_behind v r = option_and_then (λ t. fields_in t r.line) (table_at v r.table)

-- the value of a field there
abbrev pub field_behind : LocalView → Ref → ℕ → Option Value
field_behind v r field = option_and_then (λ fields. slice_get fields field) (fields_behind v r)

abbrev pub get : LocalView → Ref → ℕ → Result Value Fault
get v r field = ok_or (field_behind v r field) Reference
