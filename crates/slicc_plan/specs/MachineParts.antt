-- There is no machine, which is told at the end of the first file. Or a machine has no state, or no enumeration of events, or
-- one without a member, which is told at the machine.
use Rattle.std.specs.Prelude.{ℕ, ◌||◌, Bool, true, false, cond, None, List, [], ◌∷◌}
use Rattle.slicc_ast.specs.declared.tree.span.Span.{Span}
use Rattle.slicc_ast.specs.declared.tree.item.Tree.{Tree}
use Rattle.slicc_ast.specs.declared.tree.machine.Machine.{Machine}
use Rattle.slicc_plan.specs.declared.broken.Broken.{Broken}
use Rattle.slicc_plan.specs.declared.broken.Rule.TheVariants.{NoMachine, NoStates}
use Rattle.slicc_plan.specs.Declarations.{machines_of}
use Rattle.slicc_plan.specs.Limits.{event_members, state_members}
use Rattle.slicc_plan.specs.Machines.{in_each}

abbrev pub is_empty : {X : Type 0} → List X → Bool
is_empty [] = true
is_empty (x ∷ xs) = false

-- the place after a file's last byte
abbrev pub end_of : Tree → Span
end_of t = record { file = t.span.file; start = t.span.end; end = t.span.end }

abbrev pub at_end_of_first : List Tree → List Broken
at_end_of_first [] = []
at_end_of_first (t ∷ ts) = record { rule = NoMachine; machine = 0; place = end_of t; other = None } ∷ []

abbrev pub missing_machine : List Tree → List Broken
missing_machine trees = cond (is_empty (machines_of trees)) (at_end_of_first trees) []

abbrev pub missing_parts_in : ℕ → Machine → List Broken
missing_parts_in number m =
    cond (is_empty (state_members m) || is_empty (event_members m))
    (record { rule = NoStates; machine = number; place = m.span; other = None } ∷ []) []

abbrev pub missing_parts : List Tree → List Broken
missing_parts trees = in_each missing_parts_in trees
