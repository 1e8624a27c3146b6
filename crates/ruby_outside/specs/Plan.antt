-- The plan of a library or a sink in memory: which of its calls are to fail, and its counts of calls and of faults.
-- Calls are counted from 1. Both counts stand still at 2^64 - 1, so a plan that lists that number fails at each call
-- from there on.
use Rattle.std.specs.Prelude.{ℕ, ◌==◌, Bool, List, if◌then◌else◌}
use Rattle.std.specs.List.{list_any}
use Rattle.ruby_outside.specs.Faults.{counted}

-- the numbers of the calls that are to fail, how many calls there were, and how many faults were met
pub record PlanState : Type 0 where
  pub fails : List ℕ
  pub calls : ℕ
  pub faults : ℕ

-- a plan before the first call
abbrev pub begun : List ℕ → PlanState
begun fails = record { fails = fails; calls = 0; faults = 0 }

-- the next call is to fail; the first call has the number 1
abbrev pub is_planned : PlanState → Bool
is_planned plan = list_any (λ call. call == counted plan.calls) plan.fails

-- a plan after one more fault
abbrev pub after_fault : PlanState → PlanState
after_fault plan = record plan { faults = counted plan.faults }

-- a plan after one more call, which met a fault if it was to fail
abbrev pub after_call : PlanState → PlanState
after_call plan = record plan {
  calls = counted plan.calls;
  faults = if is_planned plan then counted plan.faults else plan.faults;
}
