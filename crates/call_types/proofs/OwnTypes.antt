-- Parameters are neither states nor events.
use Rattle.std.proofs.Common.{◌≡◌, ◌∙◌, ◌++◌, Option, List, [], ◌∷◌, map, find, refl, sym, ap}
use Rattle.std.specs.List.{flat_map}
use Rattle.slicc_ast.specs.declared.tree.machine.Machine.{Machine}
use Rattle.slicc_ast.specs.declared.tree.machine.Parameter.{Parameter}
use Rattle.slicc_plan.specs.CallTypes.{own_type}
use Rattle.slicc_plan.specs.Prelude.{events_type, states_type, Declaration, machine_declarations, named_declarations, parameter, is_events, is_states}

states_behind : (ps : List Parameter) (ds : List Declaration) → find is_states (map parameter ps ++ ds) ≡ find is_states ds
states_behind [] ds = refl
states_behind (p ∷ ps) ds = states_behind ps ds

events_behind : (ps : List Parameter) (ds : List Declaration) → find is_events (map parameter ps ++ ds) ≡ find is_events ds
events_behind [] ds = refl
events_behind (p ∷ ps) ds = events_behind ps ds

pub states_known : (m : Machine) (o : Option Declaration) → o ≡ find is_states (flat_map named_declarations m.declarations) → own_type m o ≡ states_type m
states_known m o e =
    ap (own_type m) (e ∙ sym (states_behind m.parameters (flat_map named_declarations m.declarations)))

pub events_known : (m : Machine) (o : Option Declaration) → o ≡ find is_events (flat_map named_declarations m.declarations) → own_type m o ≡ events_type m
events_known m o e =
    ap (own_type m) (e ∙ sym (events_behind m.parameters (flat_map named_declarations m.declarations)))
