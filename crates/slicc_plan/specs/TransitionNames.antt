-- A transition names a state, an event or an action that its machine hasn't, or a state's permission is none. That is told at
-- the name. What a permission belongs to has to be `AccessPermission`; another type is told at its name, as one that isn't
-- wanted. Other names that aren't there, as those in bodies, aren't spoken of here.
use Rattle.std.specs.Prelude.{◌++◌, cond, is_none, Option, None, Some, List, [], ◌∷◌, filter, flat_map, map}
use Rattle.slicc_ast.specs.declared.tree.name.Name.{Name}
use Rattle.slicc_ast.specs.declared.tree.item.Tree.{Tree}
use Rattle.slicc_ast.specs.declared.tree.machine.Machine.{Machine}
use Rattle.slicc_ast.specs.declared.tree.machine.NextState.{NextState}
use Rattle.slicc_ast.specs.declared.tree.machine.NextState.TheVariants.{Named, Asked}
use Rattle.slicc_ast.specs.declared.tree.machine.Transition.{Transition}
use Rattle.slicc_ast.specs.declared.tree.declaration.State.{State}
use Rattle.slicc_plan.specs.declared.broken.Broken.{Broken}
use Rattle.slicc_plan.specs.declared.broken.Rule.TheVariants.{NotThere, WrongType}
use Rattle.slicc_plan.specs.declared.built_in.BuiltInType.TheVariants.{AccessPermission}
use Rattle.slicc_plan.specs.BuiltIn.{is_among, permissions}
use Rattle.slicc_plan.specs.Declarations.{Declaration, states, within, machine_declarations, machines_of}
use Rattle.slicc_plan.specs.Limits.{event_members, state_members}
use Rattle.slicc_plan.specs.Machines.{actions_of, names_in, number_among, transitions_of}
use Rattle.slicc_plan.specs.Types.{KnownType, is_built_in, type_in}

abbrev pub not_there : Name → Broken
not_there n = record { rule = NotThere; machine = 0; place = n.span; other = None }

-- the names that none of the declarations has
abbrev pub missing_among : List Declaration → List Name → List Broken
missing_among declarations names =
    map not_there (filter (λ (n : Name). is_none (number_among declarations n)) names)

-- the next state, where it is named
abbrev pub listed_next : Option NextState → List Name
listed_next None = []
listed_next (Some (Named n)) = n ∷ []
listed_next (Some (Asked place)) = []

abbrev pub missing_in : Machine → Transition → List Broken
missing_in m t =
    missing_among (state_members m) (names_in t.states ++ listed_next t.next)
    ++ missing_among (event_members m) (names_in t.events) ++ missing_among (actions_of m) t.actions

-- Permissions.

abbrev pub wrong_owner : Name → Broken
wrong_owner n = record { rule = WrongType; machine = 0; place = n.span; other = None }

-- where what the permission belongs to is this type, if it is known
abbrev pub wrong_permission : State → Option KnownType → List Broken
wrong_permission s None = []
wrong_permission s (Some t) =
    cond (is_built_in AccessPermission (Some t))
    (cond (is_among permissions s.permission.text) [] (not_there s.permission ∷ [])) (wrong_owner s.owner ∷ [])

abbrev pub wrong_permissions : List Tree → Machine → Declaration → List Broken
wrong_permissions trees m (states d) =
    flat_map (λ (s : State). wrong_permission s (type_in trees (within m) s.owner.text)) d.members
wrong_permissions trees m _ = []

abbrev pub wrong_names_in : List Tree → Machine → List Broken
wrong_names_in trees m =
    flat_map (missing_in m) (transitions_of m) ++ flat_map (wrong_permissions trees m) (machine_declarations m)

abbrev pub wrong_names : List Tree → List Broken
wrong_names trees = flat_map (wrong_names_in trees) (machines_of trees)
