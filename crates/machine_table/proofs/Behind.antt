-- What is sought among a machine's declarations is none of its parameters.
use Rattle.std.proofs.Common.{◌≡◌, List, [], ◌∷◌, ◌++◌, map, find, filter, refl}
use Rattle.slicc_ast.specs.declared.tree.machine.Parameter.{Parameter}
use Rattle.slicc_plan.specs.Prelude.{Declaration, parameter, is_action, is_events, is_states}

pub states_behind : (ps : List Parameter) (ds : List Declaration) → find is_states (map parameter ps ++ ds) ≡ find is_states ds
states_behind [] ds = refl
states_behind (p ∷ ps) ds = states_behind ps ds

pub events_behind : (ps : List Parameter) (ds : List Declaration) → find is_events (map parameter ps ++ ds) ≡ find is_events ds
events_behind [] ds = refl
events_behind (p ∷ ps) ds = events_behind ps ds

pub actions_behind : (ps : List Parameter) (ds : List Declaration) → filter is_action (map parameter ps ++ ds) ≡ filter is_action ds
actions_behind [] ds = refl
actions_behind (p ∷ ps) ds = actions_behind ps ds
