-- What is wrong with the ways through the bodies of all scopes is what is wrong with those of all machines.
use Rattle.std.proofs.Common.{◌≡◌, ◌++◌, ◌∙◌, Some, None, List, [], ◌∷◌, flat_map, map, refl, ap}
use Rattle.std.proofs.lemmas.Grind.{flat_map-append}
use Rattle.std.proofs.lemmas.List.Folds.{flat_map-map}
use Rattle.slicc_ast.specs.declared.tree.item.Tree.{Tree}
use Rattle.slicc_ast.specs.declared.tree.item.Item.{Item}
use Rattle.slicc_ast.specs.declared.tree.item.Item.TheVariants.{Include, Enumeration, Structure, Machine as MachineItem}
use Rattle.slicc_ast.specs.declared.tree.declaration.Function.TheVariants.{Plain, Skipped}
use Rattle.slicc_ast.specs.declared.tree.machine.Machine.{Machine}
use Rattle.slicc_plan.specs.declared.broken.Broken.{Broken}
use Rattle.slicc_plan.specs.Declarations.{enumeration, structure, out_port, in_port}
use Rattle.slicc_plan.specs.Prelude.{Declaration, machine, states, parameter, object, action, function, symbol, state, member, formal, local, everywhere, within, item_declarations, machine_declarations, machines_of, wide_scopes, missing_returns, wrong_ways, wrong_ways_in}
use Rattle.declaration_rules.proofs.Steps.{flat_map_same}
use Rattle.body_rules.specs.Prelude.{ways_in, ways_of}

-- in a machine

same_ways : (trees : List Tree) (m : Machine) (d : Declaration) → ways_of trees (within m) d ≡ wrong_ways trees m d
same_ways trees m (machine x) = refl
same_ways trees m (enumeration x) = refl
same_ways trees m (structure x) = refl
same_ways trees m (states x) = refl
same_ways trees m (parameter x) = refl
same_ways trees m (object x) = refl
same_ways trees m (out_port x) = refl
same_ways trees m (in_port x) = refl
same_ways trees m (action x) = refl
same_ways trees m (function (Plain kind called formals attributes (Some body) span)) = refl
same_ways trees m (function (Plain kind called formals attributes None span)) = refl
same_ways trees m (function (Skipped s)) = refl
same_ways trees m (symbol x) = refl
same_ways trees m (state x) = refl
same_ways trees m (member x) = refl
same_ways trees m (formal x) = refl
same_ways trees m (local kind called span) = refl

ways_in_machine : (trees : List Tree) (m : Machine) → ways_in trees (within m) ≡ wrong_ways_in trees m
ways_in_machine trees m = flat_map_same (ways_of trees (within m)) (wrong_ways trees m) (machine_declarations m) (same_ways trees m)

-- right in a protocol

none_nested : {X : Type 0} (f : Declaration → List Broken) (g : X → List Declaration) → ((x : X) → flat_map f (g x) ≡ []) → (xs : List X) → flat_map f (flat_map g xs) ≡ []
none_nested f g none [] = refl
none_nested f g none (x ∷ xs) =
    flat_map-append f (g x) (flat_map g xs) ∙ ap (λ bs. bs ++ flat_map f (flat_map g xs)) (none x) ∙ none_nested f g none xs

none_of_item : (trees : List Tree) (i : Item) → flat_map (ways_of trees everywhere) (item_declarations i) ≡ []
none_of_item trees (Include text span) = refl
none_of_item trees (Enumeration e) = refl
none_of_item trees (Structure s) = refl
none_of_item trees (MachineItem m) = refl

ways_everywhere : (trees : List Tree) → ways_in trees everywhere ≡ []
ways_everywhere trees =
    none_nested (ways_of trees everywhere) (λ (t : Tree). flat_map item_declarations t.items)
    (λ t. none_nested (ways_of trees everywhere) item_declarations (none_of_item trees) t.items) trees

pub ways_by_each : (trees : List Tree) → flat_map (ways_in trees) (wide_scopes trees) ≡ missing_returns trees
ways_by_each trees =
    ap (λ bs. bs ++ flat_map (ways_in trees) (map within (machines_of trees))) (ways_everywhere trees)
    ∙ flat_map-map (ways_in trees) within (machines_of trees)
    ∙ flat_map_same (λ m. ways_in trees (within m)) (wrong_ways_in trees) (machines_of trees) (ways_in_machine trees)
