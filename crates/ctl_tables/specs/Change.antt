-- What one entry of a log of changes does to a table: it is what the act that logged it does, where that act may be done; else
-- it isn't an entry that a log has. A write of one field is for a line whose fields are kept by themselves. A line of a directory
-- has its default fields until it is first written, and then all its fields come at once.
use Rattle.std.specs.Prelude.{ℕ, Option, List, Result, Ok, Err}
use Rattle.std.specs.FinMap as map
use Rattle.ruby_value.specs.declared.fault.Fault.{Fault}
use Rattle.ruby_value.specs.declared.fault.Fault.TheVariants.{Reference}
use Rattle.ruby_value.specs.declared.value.Value.{Value}
use Rattle.ctl_face.specs.Prelude.{with_line, without_line_in, fields_in, with_fields_in, table_with_field, Table, CacheTable, DirectoryTable, TbeTable, ParameterTable, used_line}
use Rattle.ctl_tables.specs.declared.change.Edit.{Edit}
use Rattle.ctl_tables.specs.declared.change.Edit.TheVariants as edit

-- the fields that are kept for a line alone: those of each line that is there, but of a directory only of those that were
-- written
abbrev pub kept_in : Table → ℕ → Option (List Value)
kept_in (CacheTable cache) line = fields_in (CacheTable cache) line
kept_in (DirectoryTable directory) line = map.get directory.written line
kept_in (TbeTable tbes) line = fields_in (TbeTable tbes) line
kept_in (ParameterTable values) line = fields_in (ParameterTable values) line

-- a line of a directory is written, with all its fields
abbrev pub written_whole : List Value → ℕ → Table → Result Table Fault
written_whole fields line (DirectoryTable directory) = Ok (with_fields_in (DirectoryTable directory) line fields)
written_whole fields line _ = Err Reference

-- a line comes into a cache or a TBE table
abbrev pub line_added : List Value → ℕ → Table → Result Table Fault
line_added fields line (CacheTable cache) = with_line fields line (CacheTable cache)
line_added fields line (TbeTable tbes) = with_line fields line (TbeTable tbes)
line_added fields line _ = Err Reference

-- a line goes out of a cache or a TBE table
abbrev pub line_removed : ℕ → Table → Result Table Fault
line_removed line (CacheTable cache) = without_line_in line (CacheTable cache)
line_removed line (TbeTable tbes) = without_line_in line (TbeTable tbes)
line_removed line _ = Err Reference

-- a line of a cache is used
abbrev pub line_used : ℕ → Table → Result Table Fault
line_used line (CacheTable cache) = used_line line (CacheTable cache)
line_used line _ = Err Reference

abbrev pub edit_in : Edit → ℕ → Table → Result Table Fault
edit_in (edit.Write field value) line t = table_with_field t line field value (kept_in t line)
edit_in (edit.Fill fields) line t = written_whole fields line t
edit_in (edit.Add fields) line t = line_added fields line t
edit_in edit.Remove line t = line_removed line t
edit_in edit.Use line t = line_used line t
