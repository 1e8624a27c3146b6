-- How many more lines a TBE table may hold. `check_allocate` asks for it.
use Rattle.std.specs.Prelude.{ℕ, ◌-◌, Option, Some}
use Rattle.std.specs.FinMap as map
use Rattle.ctl_face.specs.LocalView.{LocalView}
use Rattle.ctl_face.specs.Table.{Table, TbeTable}
use Rattle.ctl_face.specs.Tables.{table_at}

abbrev pub free_in : Option Table → ℕ
free_in (Some (TbeTable tbes)) = tbes.entries - map.len tbes.held
free_in _ = 0

abbrev pub free : LocalView → ℕ → ℕ
free v table = free_in (table_at v table)
