-- The names of machines, scope by scope.
use Rattle.std.proofs.Common.{◌≡◌, ◌<◌, ◌+◌, ◌∙◌, ◌++◌, ◌||◌, ℕ, Bool, false, List, [], ◌∷◌, flat_map, map, drop, length, refl, ap, sym, get_or}
use Rattle.std.specs.List.{list_any}
use Rattle.std.specs.Str.{bytes_eq}
use Rattle.std.proofs.lemmas.List.{drop_more}
use Rattle.std.proofs.lemmas.List.Folds.{list_any-append}
use Rattle.slicc_ast.specs.declared.tree.item.Tree.{Tree}
use Rattle.slicc_ast.specs.declared.tree.machine.Machine.{Machine}
use Rattle.slicc_plan.specs.Prelude.{is_among, Scope, machine_names, machines_of, wide_scopes}
use Rattle.call_types.specs.Prelude.{machines_in}
use Rattle.call_types.proofs.Machines.{machines_wide}
use Rattle.expression_types.specs.Prelude.{is_called}

among_names : (text : List ℕ) (ms : List Machine) → is_among (map (λ (m : Machine). m.name.text) ms) text ≡ list_any (is_called text) ms
among_names text [] = refl
among_names text (m ∷ ms) = ap (λ b. bytes_eq m.name.text text || b) (among_names text ms)

pub among_machines : (text : List ℕ) (trees : List Tree) → is_among (machine_names trees) text ≡ list_any (is_called text) (flat_map machines_in (wide_scopes trees))
among_machines text trees = among_names text (machines_of trees) ∙ ap (list_any (is_called text)) (sym (machines_wide trees))

pub not_here : (text : List ℕ) (scopes : List Scope) (i : ℕ) (d : Scope) → i < length scopes → list_any (is_called text) (flat_map machines_in (drop i scopes)) ≡ (list_any (is_called text) (machines_in (get_or scopes i d)) || list_any (is_called text) (flat_map machines_in (drop (i + 1) scopes)))
not_here text scopes i d below =
    ap (λ ss. list_any (is_called text) (flat_map machines_in ss)) (drop_more scopes i d below)
    ∙ list_any-append (is_called text) (machines_in (get_or scopes i d)) (flat_map machines_in (drop (i + 1) scopes))
