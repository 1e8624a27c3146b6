-- The first of what is broken in several lists, one behind the other.
use Rattle.std.proofs.Common.{◌≡◌, ◌++◌, Option, List}
use Rattle.slicc_plan.specs.declared.broken.Broken.{Broken}
use Rattle.slicc_plan.specs.Prelude.{first_after}
use Rattle.slicc_plan.proofs.Firsts.{first_after-append}

pub lists_in_a_row : (first : Option Broken) (bs cs : List Broken) → first_after first (bs ++ cs) ≡ first_after (first_after first bs) cs
lists_in_a_row first bs cs = first_after-append first bs cs

pub ruleset rules_of_lists = (lists_in_a_row)
