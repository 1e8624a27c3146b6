-- The rows of a protocol's tables: for each machine the written rows of each pair of a state and an event, state by state and in each
-- event by event, in the order of the text. No pair of a protocol that keeps all rules has two.
use Rattle.std.specs.Prelude.{◌≡◌, ℕ, List, flat_map, length, map}
use Rattle.slicc_ast.specs.declared.tree.item.Tree.{Tree}
use Rattle.slicc_ast.specs.declared.tree.machine.Machine.{Machine}
use Rattle.slicc_plan.specs.declared.row.Row.{Row}
use Rattle.slicc_plan.specs.Buffers.{listed}
use Rattle.slicc_plan.specs.Prelude.{numbers_below, machines_of, event_members, state_members, rows}
use Rattle.machine_table.specs.declared.table.Tables.{Tables}
use Rattle.machine_table.specs.Prelude.{answer}

abbrev pub rows_in_state : Machine → ℕ → List Row
rows_in_state m state = flat_map (rows m state) (numbers_below (length (event_members m)))

abbrev pub machine_rows : Machine → List Row
machine_rows m = flat_map (rows_in_state m) (numbers_below (length (state_members m)))

-- these are the rows of the machines, one list for each
abbrev pub AreTableRows : List Tree → List (List Row) → Type 0
AreTableRows trees tables = tables ≡ map machine_rows (machines_of trees)

-- what a protocol's tables answer for a machine, by its number

abbrev pub answered : Tables → ℕ → ℕ → ℕ → List Row
answered tables number state event = listed (answer tables number state event)

-- on the first events of so many
abbrev pub answered_in_state : Tables → ℕ → ℕ → ℕ → List Row
answered_in_state tables number events state = flat_map (answered tables number state) (numbers_below events)
