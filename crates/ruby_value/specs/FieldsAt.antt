-- The fields of a line of a directory: those that were written, or else the ones that each line begins with.
-- So each line has fields from the start, which is this project's own rule.
use Rattle.std.specs.Prelude.{ℕ, List, unwrap_or}
use Rattle.std.specs.FinMap as map
use Rattle.ruby_value.specs.declared.value.Value.{Value}
use Rattle.ruby_value.specs.Directory.{Directory}

abbrev pub fields_at : Directory → ℕ → List Value
fields_at directory line = unwrap_or (map.get directory.written line) directory.initial
