-- The rules of flow: functions call each other in no circle, no body is too large, and what only reads changes nothing. A
-- protocol that breaks some of them is refused with the first. Of any other it is known what its transitions need and send.
use Rattle.std.specs.Prelude.{◌≡◌, ◌++◌, ℕ, Some, List, [], Result, Ok, Err}
use Rattle.slicc_ast.specs.declared.tree.item.Tree.{Tree}
use Rattle.slicc_plan.specs.declared.broken.Broken.{Broken}
use Rattle.slicc_plan.specs.declared.refusal.Refusal.{Refusal}
use Rattle.slicc_plan.specs.Prelude.{large_bodies, IsAnswered, call_circles, IsFirstBroken, reading_changes, needs}
use Rattle.slicc_flow.specs.Checks.{count_in}
use Rattle.slicc_flow.specs.Sends.{all_sends}
use Rattle.slicc_flow.specs.declared.sends.MachineSends.{MachineSends}

-- what is broken of them
abbrev pub broken_flow : List Tree → List Broken
broken_flow trees = call_circles trees ++ large_bodies trees ++ reading_changes trees

-- no rule of flow is broken, and what is checked tells what each transition needs of each table
pub record IsFlowOf (trees : List Tree) (checks : List (List (List ℕ))) : Type 0 where
  pub keeps_all : broken_flow trees ≡ []
  pub needs_all : (m transition table : ℕ) → count_in checks m transition table ≡ needs trees m transition table

abbrev pub IsFlowOrBroken : List Tree → Result (List (List (List ℕ))) Broken → Type 0
IsFlowOrBroken trees (Ok checks) = IsFlowOf trees checks
IsFlowOrBroken trees (Err b) = IsFirstBroken (broken_flow trees) b

-- what may be answered for a protocol with these trees
abbrev pub IsFlow : List Tree → Result (List (List (List ℕ))) Refusal → Type 0
IsFlow trees (Ok checks) = IsFlowOf trees checks
IsFlow trees (Err r) = IsAnswered (broken_flow trees) (Some r)

-- what may be answered for a plan: of one that breaks none it is known, too, what its transitions send
abbrev pub IsPlanFlow : List Tree → Result (List (List (List ℕ)) × List MachineSends) Refusal → Type 0
IsPlanFlow trees (Ok flow) = IsFlowOf trees flow.0 × (flow.1 ≡ all_sends trees)
IsPlanFlow trees (Err r) = IsAnswered (broken_flow trees) (Some r)
