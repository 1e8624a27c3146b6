-- What is broken in the machines of a protocol, by all rules of machines. The order of this list is no matter: which of them is
-- told is said by `IsFirstBroken`.
use Rattle.std.specs.Prelude.{◌++◌, List}
use Rattle.slicc_ast.specs.declared.tree.item.Tree.{Tree}
use Rattle.slicc_plan.specs.declared.broken.Broken.{Broken}
use Rattle.slicc_plan.specs.BodySizes.{large_bodies}
use Rattle.slicc_plan.specs.CallsBetween.{call_circles}
use Rattle.slicc_plan.specs.MachineParts.{missing_machine, missing_parts}
use Rattle.slicc_plan.specs.Networks.{wrong_networks}
use Rattle.slicc_plan.specs.NextStates.{unanswered_stars}
use Rattle.slicc_plan.specs.ReadOnly.{reading_changes}
use Rattle.slicc_plan.specs.StateFunctions.{wrong_state_functions}
use Rattle.slicc_plan.specs.TwoTransitions.{shared_pairs}

abbrev pub broken_machines : List Tree → List Broken
broken_machines trees =
    call_circles trees ++ large_bodies trees ++ reading_changes trees ++ shared_pairs trees ++ wrong_state_functions trees
    ++ wrong_networks trees ++ missing_machine trees ++ missing_parts trees ++ unanswered_stars trees
