-- How many machines, states, events and pairs a protocol has. States and events are those that its machines declare; a pair is
-- a state and an event of one machine that have a written transition.
use Rattle.std.specs.Prelude.{ℕ, zero, suc, ◌++◌, Bool, true, false, List, [], ◌∷◌, count_by, length, sum_by}
use Rattle.slicc_ast.specs.declared.tree.item.Tree.{Tree}
use Rattle.slicc_ast.specs.declared.tree.machine.Machine.{Machine}
use Rattle.slicc_plan.specs.declared.row.Counts.{Counts}
use Rattle.slicc_plan.specs.declared.row.Row.{Row}
use Rattle.slicc_plan.specs.Declarations.{machines_of}
use Rattle.slicc_plan.specs.Limits.{event_members, state_members}
use Rattle.slicc_plan.specs.Machines.{rows}

-- the numbers from 0 up to this one, which isn't among them
abbrev pub numbers_below : ℕ → List ℕ
numbers_below zero = []
numbers_below (suc n) = numbers_below n ++ n ∷ []

abbrev pub is_written : List Row → Bool
is_written [] = false
is_written (r ∷ rs) = true

abbrev pub events_answered : Machine → ℕ → ℕ
events_answered m state =
    count_by (λ event. is_written (rows m state event)) (numbers_below (length (event_members m)))

abbrev pub pairs_of : Machine → ℕ
pairs_of m = sum_by (events_answered m) (numbers_below (length (state_members m)))

abbrev pub counts_of : List Tree → Counts
counts_of trees =
    record {
      machines = length (machines_of trees);
      states = sum_by (λ (m : Machine). length (state_members m)) (machines_of trees);
      events = sum_by (λ (m : Machine). length (event_members m)) (machines_of trees);
      pairs = sum_by pairs_of (machines_of trees);
    }
