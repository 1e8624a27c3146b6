-- Names that aren't found, where a name is found as its machine's by a search.
use Rattle.std.specs.Prelude.{◌++◌, cond, is_none, List, [], ◌∷◌, flat_map}
use Rattle.slicc_ast.specs.declared.tree.name.Name.{Name}
use Rattle.slicc_ast.specs.declared.tree.machine.Transition.{Transition}
use Rattle.slicc_plan.specs.declared.broken.Broken.{Broken}
use Rattle.slicc_plan.specs.Machines.{names_in}
use Rattle.slicc_plan.specs.Prelude.{listed_next, not_there}
use Rattle.machine_table.specs.declared.numbers.PartNumbers.{PartNumbers}
use Rattle.machine_table.specs.Prelude.{Finding, found_by}

abbrev pub missing_by : Finding → Name → List Broken
missing_by found n = cond (is_none (found n.text)) (not_there n ∷ []) []

abbrev pub missing_with : PartNumbers → Transition → List Broken
missing_with own t =
    flat_map (missing_by (found_by own.states)) (names_in t.states ++ listed_next t.next)
    ++ flat_map (missing_by (found_by own.events)) (names_in t.events)
    ++ flat_map (missing_by (found_by own.actions)) t.actions
