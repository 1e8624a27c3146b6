-- The tables that a machine's transitions check, declaration by declaration.
use Rattle.std.proofs.Common.{◌≡◌, ◌≤◌, ◌++◌, ◌∷◌, ℕ, List, [], length, map, take, flat_map, refl, sym, ap, ◌∙◌}
use Rattle.std.proofs.lemmas.List.{map-append, take_all}
use Rattle.slicc_ast.specs.declared.tree.machine.Decl.{Decl}
use Rattle.slicc_plan.specs.declared.part.Body.{Body}
use Rattle.slicc_plan.specs.Prelude.{transition_in}
use Rattle.slicc_flow.specs.Prelude.{decl_checks, transition_checks}

checks_same : (names : List (List ℕ)) (actions : List Body) (ds : List Decl) → flat_map (decl_checks names actions) ds ≡ map (transition_checks names actions) (flat_map transition_in ds)
checks_same names actions [] = refl
checks_same names actions (d ∷ ds) =
    ap (λ xs. decl_checks names actions d ++ xs) (checks_same names actions ds)
    ∙ sym (map-append (transition_checks names actions) (transition_in d) (flat_map transition_in ds))

pub checks_all : (names : List (List ℕ)) (actions : List Body) (ds : List Decl) (i : ℕ) (list : List (List ℕ)) → length ds ≤ i → list ≡ flat_map (decl_checks names actions) (take i ds) → list ≡ map (transition_checks names actions) (flat_map transition_in ds)
checks_all names actions ds i list le is = is ∙ ap (flat_map (decl_checks names actions)) (take_all i ds le) ∙ checks_same names actions ds
