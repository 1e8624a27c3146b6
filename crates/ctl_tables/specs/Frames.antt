-- What a table is, apart from its lines: of a cache its ways and how many sets, of a directory the fields that each line begins
-- with, of a TBE table how many lines it may hold. No act changes it.
use Rattle.std.specs.Prelude.{ℕ, Bool, true, false, Option, None, Some, List, length, slice_get}
use Rattle.std.specs.Option.{option_map}
use Rattle.ruby_value.specs.declared.value.Value.{Value}
use Rattle.ctl_face.specs.Prelude.{Table, CacheTable, DirectoryTable, TbeTable, ParameterTable}

pub data Frame : Type 0 where
  CacheFrame : ℕ → ℕ → Frame
  DirectoryFrame : List Value → Frame
  TbeFrame : ℕ → Frame
  ParameterFrame : Frame

abbrev pub frame_of : Table → Frame
frame_of (CacheTable cache) = CacheFrame cache.ways (length cache.sets)
frame_of (DirectoryTable directory) = DirectoryFrame directory.initial
frame_of (TbeTable tbes) = TbeFrame tbes.entries
frame_of (ParameterTable values) = ParameterFrame

abbrev pub frame_at : List Table → ℕ → Option Frame
frame_at ts table = option_map frame_of (slice_get ts table)

-- lines can be taken out of it
abbrev pub loses_lines : Option Frame → Bool
loses_lines (Some (CacheFrame ways sets)) = true
loses_lines (Some (DirectoryFrame initial)) = false
loses_lines (Some (TbeFrame entries)) = true
loses_lines (Some ParameterFrame) = false
loses_lines None = false

-- it keeps an order of use
abbrev pub keeps_order : Option Frame → Bool
keeps_order (Some (CacheFrame ways sets)) = true
keeps_order (Some (DirectoryFrame initial)) = false
keeps_order (Some (TbeFrame entries)) = false
keeps_order (Some ParameterFrame) = false
keeps_order None = false
