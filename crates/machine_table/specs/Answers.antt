-- What tables answer.
use Rattle.std.specs.Prelude.{ℕ, option_and_then, slice_get, unwrap_or}
use Rattle.pair_table.specs.Prelude.{answer_of}
use Rattle.machine_table.specs.declared.table.Tables.{Tables}
use Rattle.machine_table.specs.TablesOf.{Answering}

-- for the machine, the state and the event of these numbers
abbrev pub answer : Tables → Answering
answer tables number state event = option_and_then (answer_of state event) (slice_get tables.machines number)

-- how many states the machine of this number has
abbrev pub state_count : Tables → ℕ → ℕ
state_count tables number = unwrap_or (slice_get tables.counts number) 0
