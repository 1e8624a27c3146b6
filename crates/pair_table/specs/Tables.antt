-- What the table of a machine answers. It has a place for each pair of a state and an event, with a row there or none.
use Rattle.std.specs.Prelude.{ℕ, ◌≡◌, ◌+◌, ◌*◌, Option, None, Some, List, cond, nat_lt, slice_get}
use Rattle.slicc_plan.specs.declared.row.Row.{Row}
use Rattle.slicc_plan.specs.declared.row.Written.{Written}
use Rattle.slicc_plan.specs.Buffers.{listed}
use Rattle.slicc_plan.specs.Machines.{rows_from}
use Rattle.pair_table.specs.declared.table.Table.{Table}

abbrev pub inner : {X : Type 0} → Option (Option X) → Option X
inner None = None
inner (Some o) = o

abbrev pub answer_at : ℕ → List (Option Row) → ℕ → ℕ → Option Row
answer_at events rows state event = cond (nat_lt event events) (inner (slice_get rows (state * events + event))) None

abbrev pub answer_of : ℕ → ℕ → Table → Option Row
answer_of state event t = answer_at t.events t.rows state event

-- the table answers the rows of these transitions
abbrev pub IsTableOf : List Written → Table → Type 0
IsTableOf ws t = (state event : ℕ) → rows_from state event 0 ws ≡ listed (answer_of state event t)
