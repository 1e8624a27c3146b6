-- What the tables of a protocol's machines answer: for a machine, a state and an event, by their numbers, the one row that is
-- written for them, or none. There are tables where no state and event of a machine have two written transitions. And how many states each
-- machine has.
use Rattle.std.specs.Prelude.{ℕ, ◌≡◌, Option, None, Some, List, [], flat_map, length, slice_get}
use Rattle.slicc_ast.specs.declared.tree.item.Tree.{Tree}
use Rattle.slicc_ast.specs.declared.tree.machine.Machine.{Machine}
use Rattle.slicc_plan.specs.declared.row.Row.{Row}
use Rattle.slicc_plan.specs.Buffers.{listed}
use Rattle.slicc_plan.specs.Prelude.{item_declarations, machine_in, machines_of, rows, state_members}

-- what tables answer
abbrev pub Answering : Type 0
Answering = ℕ → ℕ → ℕ → Option Row

abbrev pub rows_of_found : Option Machine → ℕ → ℕ → List Row
rows_of_found None state event = []
rows_of_found (Some m) state event = rows m state event

-- the written rows of the machine of this number
abbrev pub rows_in : List Tree → ℕ → ℕ → ℕ → List Row
rows_in trees number state event = rows_of_found (slice_get (machines_of trees) number) state event

-- what is written is what is answered, and nothing else is
abbrev pub AreTablesOf : List Tree → Answering → Type 0
AreTablesOf trees tables =
    (number state event : ℕ) → rows_in trees number state event ≡ listed (tables number state event)

abbrev pub states_of_found : Option Machine → ℕ
states_of_found None = 0
states_of_found (Some m) = length (state_members m)

-- these are how many states the machines have, by their numbers
abbrev pub AreStateCountsOf : List Tree → (ℕ → ℕ) → Type 0
AreStateCountsOf trees counts = (number : ℕ) → states_of_found (slice_get (machines_of trees) number) ≡ counts number

-- the machines of a file
abbrev pub machines_in : Tree → List Machine
machines_in t = flat_map machine_in (flat_map item_declarations t.items)
