-- Parts of one kind that declare a name each, and parts that hold others.
use Rattle.std.proofs.Common.{◌≡◌, List, [], ◌∷◌, ◌++◌, flat_map, map, refl, ap, ◌∙◌}
use Rattle.std.proofs.lemmas.Grind.{flat_map-append}
use Rattle.std.proofs.lemmas.List.Concat.{flat_map_single}
use Rattle.slicc_ast.specs.declared.tree.declaration.Formal.{Formal}
use Rattle.slicc_ast.specs.declared.tree.declaration.Member.{Member}
use Rattle.slicc_ast.specs.declared.tree.declaration.State.{State}
use Rattle.slicc_ast.specs.declared.tree.declaration.Symbol.{Symbol}
use Rattle.slicc_ast.specs.declared.tree.item.Tree.{Tree}
use Rattle.slicc_ast.specs.declared.tree.machine.Machine.{Machine}
use Rattle.slicc_ast.specs.declared.tree.machine.Parameter.{Parameter}
use Rattle.slicc_names.specs.Prelude.{one_formal, one_member, one_parameter, one_state, one_symbol, decl_scopes, tree_scopes}
use Rattle.slicc_plan.specs.Prelude.{formal, item_declarations, machine_declarations, member, named_declarations, parameter, state, symbol, global_scopes, inner_scopes, scopes_within}

pub each_symbol : (xs : List Symbol) → flat_map one_symbol xs ≡ map symbol xs
each_symbol xs = flat_map_single symbol xs

pub each_state : (xs : List State) → flat_map one_state xs ≡ map state xs
each_state xs = flat_map_single state xs

pub each_member : (xs : List Member) → flat_map one_member xs ≡ map member xs
each_member xs = flat_map_single member xs

pub each_formal : (xs : List Formal) → flat_map one_formal xs ≡ map formal xs
each_formal xs = flat_map_single formal xs

pub each_parameter : (xs : List Parameter) → flat_map one_parameter xs ≡ map parameter xs
each_parameter xs = flat_map_single parameter xs

pub flat_flat : {X Y Z : Type 0} (g : Y → List Z) (f : X → List Y) (xs : List X) → flat_map g (flat_map f xs) ≡ flat_map (λ x. flat_map g (f x)) xs
flat_flat g f [] = refl
flat_flat g f (x ∷ xs) = flat_map-append g (f x) (flat_map f xs) ∙ ap (λ zs. flat_map g (f x) ++ zs) (flat_flat g f xs)

-- parameters have no scopes in them
parameters_scopes : (ps : List Parameter) → flat_map inner_scopes (map parameter ps) ≡ []
parameters_scopes [] = refl
parameters_scopes (p ∷ ps) = parameters_scopes ps

pub machine_inside : (m : Machine) → flat_map inner_scopes (machine_declarations m) ≡ flat_map decl_scopes m.declarations
machine_inside m =
    flat_map-append inner_scopes (map parameter m.parameters) (flat_map named_declarations m.declarations)
    ∙ ap (λ xs. xs ++ flat_map inner_scopes (flat_map named_declarations m.declarations)) (parameters_scopes m.parameters)
    ∙ flat_flat inner_scopes named_declarations m.declarations

pub trees_inside : (trees : List Tree) → scopes_within trees ≡ flat_map tree_scopes trees
trees_inside [] = refl
trees_inside (t ∷ ts) =
    flat_map-append global_scopes (flat_map item_declarations t.items) (flat_map (λ (u : Tree). flat_map item_declarations u.items) ts)
    ∙ ap (λ xs. xs ++ scopes_within ts) (flat_flat global_scopes item_declarations t.items)
    ∙ ap (λ xs. tree_scopes t ++ xs) (trees_inside ts)
