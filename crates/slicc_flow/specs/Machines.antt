-- The bodies of machines, and what the rules of flow find in them. Machines are numbered in the order of the text.
use Rattle.std.specs.Prelude.{ℕ, ◌+◌, ◌++◌, List, [], ◌∷◌, map}
use Rattle.slicc_ast.specs.declared.tree.item.Tree.{Tree}
use Rattle.slicc_ast.specs.declared.tree.machine.Machine.{Machine}
use Rattle.slicc_plan.specs.declared.broken.Broken.{Broken}
use Rattle.slicc_plan.specs.BodyParts.{names_in}
use Rattle.slicc_plan.specs.Prelude.{Names, asked_functions, bodies_of, written_actions, written_functions, written_ports, large_among, circles_among, Scope, everywhere, within, machines_of, changes_among}
use Rattle.declared_types.specs.Prelude.{scope_at}
use Rattle.slicc_flow.specs.declared.machine.MachineBodies.{MachineBodies}
use Rattle.slicc_flow.specs.Checks.{checks_with}

-- where names in the machine stand for this
abbrev pub bodies_with : Names → Machine → MachineBodies
bodies_with names m =
    record {
      functions = bodies_of names (written_functions m);
      actions = bodies_of names (written_actions m);
      ports = bodies_of names (written_ports m);
      asked = asked_functions names.functions m;
      checks = checks_with (bodies_of names (written_actions m)) m;
    }

abbrev pub bodies_in : List Tree → Machine → MachineBodies
bodies_in trees m = bodies_with (names_in trees m) m

abbrev pub bodies_of_scope : List Tree → Scope → List MachineBodies
bodies_of_scope trees everywhere = []
bodies_of_scope trees (within m) = bodies_in trees m ∷ []

abbrev pub bodies_at : List Tree → ℕ → List MachineBodies
bodies_at trees scope = bodies_of_scope trees (scope_at trees scope)

abbrev pub all_bodies : List Tree → List MachineBodies
all_bodies trees = map (bodies_in trees) (machines_of trees)

-- what the transitions of these machines check
abbrev pub checks_in : List MachineBodies → List (List (List ℕ))
checks_in machines = map (λ (b : MachineBodies). b.checks) machines

-- of these machines, which are numbered from here on
abbrev pub each_from : (ℕ → MachineBodies → List Broken) → ℕ → List MachineBodies → List Broken
each_from found number [] = []
each_from found number (b ∷ bs) = found number b ++ each_from found (number + 1) bs

abbrev pub circles_of : ℕ → MachineBodies → List Broken
circles_of number b = circles_among number b.functions

abbrev pub large_of : ℕ → MachineBodies → List Broken
large_of number b =
    large_among number b.functions b.functions ++ large_among number b.functions b.actions
    ++ large_among number b.functions b.ports

abbrev pub changes_of : ℕ → MachineBodies → List Broken
changes_of number b = changes_among number b.functions b.ports b.asked

-- what these machines break of the rules of flow
abbrev pub found_in : List MachineBodies → List Broken
found_in machines = each_from circles_of 0 machines ++ each_from large_of 0 machines ++ each_from changes_of 0 machines
