-- A state and an event of a machine have two written transitions. That is told at the later one, and the second place is the
-- earliest that has a pair with it. A pair that one transition has twice is no such.
use Rattle.std.specs.Prelude.{ℕ, ◌++◌, Bool, Option, None, Some, List, [], ◌∷◌, find}
use Rattle.std.specs.List.{list_any}
use Rattle.slicc_ast.specs.declared.tree.item.Tree.{Tree}
use Rattle.slicc_ast.specs.declared.tree.machine.Machine.{Machine}
use Rattle.slicc_plan.specs.declared.broken.Broken.{Broken}
use Rattle.slicc_plan.specs.declared.broken.Rule.TheVariants.{TwoTransitions}
use Rattle.slicc_plan.specs.declared.row.Written.{Written}
use Rattle.slicc_plan.specs.Machines.{in_each, is_for, written_of}

-- the other transition is written for a pair of this one too
abbrev pub share_pair : Written → Written → Bool
share_pair t u = list_any (λ state. list_any (λ event. is_for state event u) t.events) t.states

abbrev pub told_with : ℕ → Written → Option Written → List Broken
told_with number t None = []
told_with number t (Some u) =
    record { rule = TwoTransitions; machine = number; place = t.span; other = Some u.span } ∷ []

-- of these transitions, with those before them
abbrev pub shared_after : ℕ → List Written → List Written → List Broken
shared_after number before [] = []
shared_after number before (t ∷ ts) =
    told_with number t (find (share_pair t) before) ++ shared_after number (before ++ t ∷ []) ts

abbrev pub shared_pairs_in : ℕ → Machine → List Broken
shared_pairs_in number m = shared_after number [] (written_of m)

abbrev pub shared_pairs : List Tree → List Broken
shared_pairs trees = in_each shared_pairs_in trees
