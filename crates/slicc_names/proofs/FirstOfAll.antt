-- The first of what is broken in declarations, list by list.
use Rattle.std.proofs.Common.{◌≡◌, ◌++◌, Option, None, Some, List, [], sym, subst}
use Rattle.slicc_plan.specs.declared.broken.Broken.{Broken}
use Rattle.slicc_plan.specs.Prelude.{IsFirstBroken, IsFirstOf, first_after, first_of}
use Rattle.slicc_plan.proofs.Firsts.{first_after-append, first_after_none}

pub lists_in_a_row : (first : Option Broken) (bs cs : List Broken) → first_after first (bs ++ cs) ≡ first_after (first_after first bs) cs
lists_in_a_row first bs cs = first_after-append first bs cs

pub ruleset rules_of_lists = (lists_in_a_row)

-- what is first is the first broken rule, and where there is no first nothing is broken
pub is_first : (broken : List Broken) (first : Option Broken) → first ≡ first_of broken → IsFirstOf broken first
is_first broken first same = subst (IsFirstOf broken) (sym same) (first_after_none broken)

pub is_none : (broken : List Broken) (first : Option Broken) → first ≡ first_of broken → first ≡ None → broken ≡ []
is_none broken first same none = subst (IsFirstOf broken) none (is_first broken first same)

pub is_some : (broken : List Broken) (first : Option Broken) (b : Broken) → first ≡ first_of broken → first ≡ Some b → IsFirstBroken broken b
is_some broken first b same some = subst (IsFirstOf broken) some (is_first broken first same)
