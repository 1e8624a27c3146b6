-- How a field of a line of a table may be written: nothing is written where the table isn't there; the line isn't there; its
-- fields are kept by themselves; or it is a line of a directory that was never written, which still has the directory's default fields.
use Rattle.std.specs.Prelude.{◌≡◌, ℕ, None, List, IsSome, IsSomeAnd, slice_get}
use Rattle.std.specs.FinMap as map
use Rattle.ruby_value.specs.declared.value.Value.{Value}
use Rattle.ctl_face.specs.Prelude.{fields_in, Table, CacheTable, DirectoryTable, TbeTable, ParameterTable}
use Rattle.ctl_tables.specs.declared.ways.Way.{Way}
use Rattle.ctl_tables.specs.declared.ways.Way.TheVariants as way
use Rattle.ctl_tables.specs.Change.{kept_in}

-- the directory's line was never written, and its lines begin with these fields
abbrev pub IsUnwritten : Table → ℕ → List Value → Type 0
IsUnwritten (CacheTable cache) line fields = ⊥
IsUnwritten (DirectoryTable directory) line fields = (map.get directory.written line ≡ None) × (directory.initial ≡ fields)
IsUnwritten (TbeTable tbes) line fields = ⊥
IsUnwritten (ParameterTable values) line fields = ⊥

abbrev pub IsWayIn : Table → ℕ → Way → Type 0
IsWayIn t line way.Nowhere = ⊥
IsWayIn t line way.Absent = fields_in t line ≡ None
IsWayIn t line way.Kept = IsSome (kept_in t line)
IsWayIn t line (way.Unwritten fields) = IsUnwritten t line fields.now

abbrev pub IsWay : List Table → ℕ → ℕ → Way → Type 0
IsWay ts table line way.Nowhere = slice_get ts table ≡ None
IsWay ts table line way.Absent = IsSomeAnd (slice_get ts table) (λ t. IsWayIn t line way.Absent)
IsWay ts table line way.Kept = IsSomeAnd (slice_get ts table) (λ t. IsWayIn t line way.Kept)
IsWay ts table line (way.Unwritten fields) = IsSomeAnd (slice_get ts table) (λ t. IsWayIn t line (way.Unwritten fields))
