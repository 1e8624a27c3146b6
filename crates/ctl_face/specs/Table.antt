-- A table of a controller, as it stands at a moment: a cache, a directory, a TBE table, or the parameters, which are
-- the fields of line 0 of a table of their own. After the machine's own parameters stand, for each machine of the
-- protocol, the number of its first controller and how many controllers it has, as two integers.
-- The sorts of tables are those of SLICC in gem5; that parameters are read like a table is this project's own.
use Rattle.std.specs.Prelude.{List}
use Rattle.ruby_value.specs.declared.value.Value.{Value}
use Rattle.ruby_value.specs.Prelude.{Cache, Directory, Tbes}

pub data Table : Type 0 where
  CacheTable : Cache → Table
  DirectoryTable : Directory → Table
  TbeTable : Tbes → Table
  ParameterTable : List Value → Table
