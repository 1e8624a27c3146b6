-- The acts on a controller's tables, over its list of tables alone: what the acts of a scan have for its controller, a local
-- of which has these tables and else stays as it is. Faults, and in which order they come, are theirs.
use Rattle.std.specs.Prelude.{ℕ, Bool, Option, None, Some, List, Result, Ok, Err, slice_get, slice_set, if◌then◌else◌}
use Rattle.std.specs.Option.{option_and_then, option_map, ok_or}
use Rattle.ruby_value.specs.declared.fault.Fault.{Fault}
use Rattle.ruby_value.specs.declared.fault.Fault.TheVariants.{Probe, Reference}
use Rattle.ruby_value.specs.declared.value.Ref.{Ref}
use Rattle.ruby_value.specs.declared.value.Value.{Value}
use Rattle.ctl_face.specs.Prelude.{with_line, available_in, least_used_in, without_line_in, fields_in, free_in, reference_to, table_with_field, Table, used_line}

-- the fields of a line, if the table and the line are there
abbrev pub fields_at : List Table → ℕ → ℕ → Option (List Value)
fields_at ts table line = option_and_then (λ t. fields_in t line) (slice_get ts table)

abbrev pub get_from : List Table → Ref → ℕ → Result Value Fault
get_from ts r field = ok_or (option_and_then (λ fields. slice_get fields field) (fields_at ts r.table r.line)) Reference

abbrev pub lookup_from : List Table → ℕ → ℕ → Option Ref
lookup_from ts table line = option_map (λ _. reference_to table line) (fields_at ts table line)

abbrev pub avail_from : List Table → ℕ → ℕ → Bool
avail_from ts table line = available_in (slice_get ts table) line

abbrev pub probe_from : List Table → ℕ → ℕ → Result ℕ Fault
probe_from ts table line =
    if avail_from ts table line then Err Probe else ok_or (least_used_in (slice_get ts table) line) Probe

abbrev pub free_from : List Table → ℕ → ℕ
free_from ts table = free_in (slice_get ts table)

abbrev pub after_change_in : List Table → ℕ → Result Table Fault → Result (List Table) Fault
after_change_in ts table (Ok changed) = Ok (slice_set ts table changed)
after_change_in ts table (Err fault) = Err fault

-- the tables with one of them changed, where it is there
abbrev pub change_if_there_in : List Table → ℕ → (Table → Result Table Fault) → Option Table → Result (List Table) Fault
change_if_there_in ts table change None = Ok ts
change_if_there_in ts table change (Some t) = after_change_in ts table (change t)

abbrev pub changed_in : List Table → ℕ → (Table → Result Table Fault) → Result (List Table) Fault
changed_in ts table change = change_if_there_in ts table change (slice_get ts table)

abbrev pub set_in : List Table → Ref → ℕ → Value → Result (List Table) Fault
set_in ts r field value = changed_in ts r.table (λ t. table_with_field t r.line field value (fields_in t r.line))

abbrev pub allocate_in : List Table → ℕ → ℕ → List Value → Result (List Table) Fault
allocate_in ts table line fields = changed_in ts table (with_line fields line)

abbrev pub deallocate_in : List Table → ℕ → ℕ → Result (List Table) Fault
deallocate_in ts table line = changed_in ts table (without_line_in line)

abbrev pub touch_in : List Table → ℕ → ℕ → Result (List Table) Fault
touch_in ts table line = changed_in ts table (used_line line)
