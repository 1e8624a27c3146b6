-- Wrong names by the scopes in which they are.
use Rattle.std.specs.Prelude.{List, [], flat_map}
use Rattle.slicc_ast.specs.declared.tree.item.Tree.{Tree}
use Rattle.slicc_ast.specs.declared.tree.declaration.State.{State}
use Rattle.slicc_plan.specs.declared.broken.Broken.{Broken}
use Rattle.slicc_plan.specs.Prelude.{Declaration, Scope, everywhere, states, within, wrong_names_in, wrong_permission, type_in}

abbrev pub wrong_state_of : List Tree → Scope → State → List Broken
wrong_state_of trees scope s = wrong_permission s (type_in trees scope s.owner.text)

abbrev pub wrong_states : List Tree → Scope → Declaration → List Broken
wrong_states trees scope (states d) = flat_map (wrong_state_of trees scope) d.members
wrong_states trees scope _ = []

-- those of the machine of a scope
abbrev pub wrong_names_within : List Tree → Scope → List Broken
wrong_names_within trees everywhere = []
wrong_names_within trees (within m) = wrong_names_in trees m
