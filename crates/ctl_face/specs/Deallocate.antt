-- A deallocation: the line goes out of its cache or TBE table, and the others stay as they are, the order of use too;
-- or the fault of a line that isn't there.
use Rattle.std.specs.Prelude.{ℕ, Result, Ok, Err, is_some, if◌then◌else◌}
use Rattle.std.specs.FinMap as map
use Rattle.ruby_value.specs.declared.fault.Fault.{Fault}
use Rattle.ruby_value.specs.declared.fault.Fault.TheVariants.{Absent}
use Rattle.ruby_value.specs.Prelude.{fields_of, set_of, without_line, with_set}
use Rattle.ctl_face.specs.LocalView.{LocalView}
use Rattle.ctl_face.specs.Table.{Table, CacheTable, TbeTable}
use Rattle.ctl_face.specs.Tables.{changed_table}

abbrev pub without_line_in : ℕ → Table → Result Table Fault
without_line_in line (CacheTable cache) =
    if is_some (fields_of (set_of cache line) line) then Ok (CacheTable (with_set cache line (without_line (set_of cache line) line)))
    else Err Absent
without_line_in line (TbeTable tbes) =
    if map.contains_key tbes.held line then Ok (TbeTable (record tbes { held = map.remove tbes.held line })) else Err Absent
without_line_in line t = Ok t

abbrev pub deallocate : LocalView → ℕ → ℕ → Result LocalView Fault
deallocate v table line = changed_table v table (without_line_in line)
