-- A use of a line of a cache, which SLICC writes `setMRU`: it becomes the most recently used one of its set, in which the
-- others stay in their order; or the fault of a line that isn't there.
use Rattle.std.specs.Prelude.{ℕ, Result, Ok, Err, is_some, if◌then◌else◌}
use Rattle.ruby_value.specs.declared.fault.Fault.{Fault}
use Rattle.ruby_value.specs.declared.fault.Fault.TheVariants.{Absent}
use Rattle.ruby_value.specs.Prelude.{fields_of, made_recent, set_of, with_set}
use Rattle.ctl_face.specs.LocalView.{LocalView}
use Rattle.ctl_face.specs.Table.{Table, CacheTable}
use Rattle.ctl_face.specs.Tables.{changed_table}

abbrev pub used_line : ℕ → Table → Result Table Fault
used_line line (CacheTable cache) =
    if is_some (fields_of (set_of cache line) line) then Ok (CacheTable (with_set cache line (made_recent (set_of cache line) line)))
    else Err Absent
used_line line t = Ok t

abbrev pub touch : LocalView → ℕ → ℕ → Result LocalView Fault
touch v table line = changed_table v table (used_line line)
