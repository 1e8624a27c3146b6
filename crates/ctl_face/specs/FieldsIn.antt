-- The fields of a line of a table, if the line is there, and the table with other fields for a line that is there.
-- Each line of a directory is there from the start, and of the parameters line 0 alone, which is this project's own.
use Rattle.std.specs.Prelude.{ℕ, Option, None, Some, List, ◌==◌, if◌then◌else◌}
use Rattle.std.specs.FinMap as map
use Rattle.ruby_value.specs.declared.value.Value.{Value}
use Rattle.ruby_value.specs.Prelude.{fields_at, fields_of, set_of, with_fields, with_set}
use Rattle.ctl_face.specs.Table.{Table, CacheTable, DirectoryTable, TbeTable, ParameterTable}

abbrev pub fields_in : Table → ℕ → Option (List Value)
fields_in (CacheTable cache) line = fields_of (set_of cache line) line
fields_in (DirectoryTable directory) line = Some (fields_at directory line)
fields_in (TbeTable tbes) line = map.get tbes.held line
fields_in (ParameterTable values) line = if line == 0 then Some values else None

abbrev pub with_fields_in : Table → ℕ → List Value → Table
with_fields_in (CacheTable cache) line fields =
    CacheTable (with_set cache line (with_fields (set_of cache line) line fields))
with_fields_in (DirectoryTable directory) line fields =
    DirectoryTable (record directory { written = map.insert directory.written line fields })
with_fields_in (TbeTable tbes) line fields = TbeTable (record tbes { held = map.insert tbes.held line fields })
with_fields_in (ParameterTable values) line fields = ParameterTable fields
