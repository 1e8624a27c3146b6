-- The table that a container keeps, and whether it has room for so many more lines, which are then put in without memory. How much
-- room there is isn't part of a table. A cache has places for all its lines from the start, and parameters are one line.
use Rattle.std.specs.Prelude.{ℕ, ◌≤◌}
use Rattle.ctl_face.specs.Prelude.{Table, CacheTable, DirectoryTable, TbeTable, ParameterTable}
use Rattle.ctl_tables.specs.declared.stored.StoredTable.{StoredTable}
use Rattle.ctl_tables.specs.declared.stored.StoredTable.TheVariants as stored

abbrev pub table_of : StoredTable → Table
table_of (stored.Cache cache) = CacheTable cache
table_of (stored.Directory directory) = DirectoryTable directory.kept
table_of (stored.Tbe tbes) = TbeTable tbes.kept
table_of (stored.Parameters values) = ParameterTable values

abbrev pub HasRoom : ℕ → StoredTable → Type 0
HasRoom n (stored.Cache cache) = Unit {0}
HasRoom n (stored.Directory directory) = n ≤ directory.room
HasRoom n (stored.Tbe tbes) = n ≤ tbes.room
HasRoom n (stored.Parameters values) = Unit {0}
