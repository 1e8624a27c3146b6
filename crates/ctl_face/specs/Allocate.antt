-- An allocation. A new line has its default fields and, in a cache, is the most recently used one of its set. One fault is
-- that the line is there; the other, that it isn't there and its set, or the TBE table, is full. A directory has each line
-- from the start, and its allocation changes nothing. That a new line is the most recent one, that a directory has each
-- line, and the faults are this project's own.
use Rattle.std.specs.Prelude.{ℕ, List, [], ◌∷◌, ◌++◌, Result, Ok, Err, is_some, nat_le, not, if◌then◌else◌}
use Rattle.std.specs.FinMap as map
use Rattle.ruby_value.specs.declared.fault.Fault.{Fault}
use Rattle.ruby_value.specs.declared.fault.Fault.TheVariants.{Full, Present}
use Rattle.ruby_value.specs.declared.value.Value.{Value}
use Rattle.ruby_value.specs.Prelude.{available, fields_of, set_of, with_set}
use Rattle.ctl_face.specs.LocalView.{LocalView}
use Rattle.ctl_face.specs.OfMachine.{initial_fields}
use Rattle.ctl_face.specs.Table.{Table, CacheTable, DirectoryTable, TbeTable, ParameterTable}
use Rattle.ctl_face.specs.Tables.{changed_table}

abbrev pub with_line : List Value → ℕ → Table → Result Table Fault
with_line fields line (CacheTable cache) =
    if is_some (fields_of (set_of cache line) line) then Err Present
    else (if not (available cache line) then Err Full
    else Ok (CacheTable (with_set cache line (set_of cache line ++ (line, fields) ∷ []))))
with_line fields line (DirectoryTable directory) = Ok (DirectoryTable directory)
with_line fields line (TbeTable tbes) =
    if map.contains_key tbes.held line then Err Present
    else (if nat_le tbes.entries (map.len tbes.held) then Err Full
    else Ok (TbeTable (record tbes { held = map.insert tbes.held line fields })))
with_line fields line (ParameterTable values) = Ok (ParameterTable values)

abbrev pub allocate : LocalView → ℕ → ℕ → Result LocalView Fault
allocate v table line = changed_table v table (with_line (initial_fields v.machine table) line)
