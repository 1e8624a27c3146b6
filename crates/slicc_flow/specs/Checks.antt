-- The tables that the actions of transitions check, and how often one of them is among these.
use Rattle.std.specs.Prelude.{ℕ, ◌==◌, Option, None, Some, List, flat_map, map}
use Rattle.std.specs.List.{count_by, slice_get}
use Rattle.slicc_ast.specs.declared.tree.name.Name.{Name}
use Rattle.slicc_ast.specs.declared.tree.item.Tree.{Tree}
use Rattle.slicc_ast.specs.declared.tree.machine.Decl.{Decl}
use Rattle.slicc_ast.specs.declared.tree.machine.Machine.{Machine}
use Rattle.slicc_ast.specs.declared.tree.machine.Transition.{Transition}
use Rattle.slicc_plan.specs.declared.part.Body.{Body}
use Rattle.slicc_plan.specs.Prelude.{names_of_written, number_in, written_actions, machines_of, transition_in, transitions_of, checks_at, checks_of}

-- those of a transition, where the actions of these names have these bodies
abbrev pub transition_checks : List (List ℕ) → List Body → Transition → List ℕ
transition_checks names actions t =
    flat_map (λ (action : Name). checks_at actions (number_in names action.text)) t.actions

abbrev pub decl_checks : List (List ℕ) → List Body → Decl → List (List ℕ)
decl_checks names actions d = map (transition_checks names actions) (transition_in d)

-- those of a machine's transitions, where its actions have these bodies
abbrev pub checks_with : List Body → Machine → List (List ℕ)
checks_with actions m = map (transition_checks (names_of_written (written_actions m)) actions) (transitions_of m)

abbrev pub machine_checks : List Tree → Machine → List (List ℕ)
machine_checks trees m = map (checks_of trees m) (transitions_of m)

abbrev pub all_checks : List Tree → List (List (List ℕ))
all_checks trees = map (machine_checks trees) (machines_of trees)

abbrev pub count_of : ℕ → Option (List ℕ) → ℕ
count_of table None = 0
count_of table (Some checks) = count_by (λ k. k == table) checks

abbrev pub of_transition : Option (List (List ℕ)) → ℕ → Option (List ℕ)
of_transition None transition = None
of_transition (Some machine) transition = slice_get machine transition

-- how often the table is among those that a transition of a machine checks
abbrev pub count_in : List (List (List ℕ)) → ℕ → ℕ → ℕ → ℕ
count_in machines machine transition table = count_of table (of_transition (slice_get machines machine) transition)
