-- The scopes of machines, one after the other, and the declarations in one.
use Rattle.std.proofs.Common.{◌≡◌, ℕ, zero, suc, List, [], ◌∷◌, ◌++◌, All, map, flat_map, slice_index_or, refl, subst, ap}
use Rattle.std.proofs.lemmas.List.Elements.{All-head, All-tail}
use Rattle.slicc_ast.specs.declared.tree.item.Tree.{Tree}
use Rattle.slicc_ast.specs.declared.tree.machine.Machine.{Machine}
use Rattle.slicc_plan.specs.Declarations.{enumeration, structure, out_port, in_port}
use Rattle.slicc_plan.specs.Prelude.{HasFewMachines, HasFewParts, Declaration, Scope, everywhere, machine, states, parameter, object, action, function, symbol, state, member, formal, local, within, machines_of, wide_scopes, wrong_names, wrong_names_in, wrong_permissions}
use Rattle.declared_types.specs.Prelude.{scope_at}
use Rattle.body_rules.specs.Prelude.{wrong_names_within, wrong_states}

within_same : (trees : List Tree) (ms : List Machine) → flat_map (wrong_names_within trees) (map within ms) ≡ flat_map (wrong_names_in trees) ms
within_same trees [] = refl
within_same trees (m ∷ ms) = ap (λ bs. wrong_names_in trees m ++ bs) (within_same trees ms)

pub all_same : (trees : List Tree) → flat_map (wrong_names_within trees) (wide_scopes trees) ≡ wrong_names trees
all_same trees = within_same trees (machines_of trees)

pub states_same : (trees : List Tree) (m : Machine) (d : Declaration) → wrong_states trees (within m) d ≡ wrong_permissions trees m d
states_same trees m (machine x) = refl
states_same trees m (enumeration x) = refl
states_same trees m (structure x) = refl
states_same trees m (states x) = refl
states_same trees m (parameter x) = refl
states_same trees m (object x) = refl
states_same trees m (out_port x) = refl
states_same trees m (in_port x) = refl
states_same trees m (action x) = refl
states_same trees m (function x) = refl
states_same trees m (symbol x) = refl
states_same trees m (state x) = refl
states_same trees m (member x) = refl
states_same trees m (formal x) = refl
states_same trees m (local x y z) = refl

-- a machine whose scope this is has few parts, as all have
pub few_within : (trees : List Tree) (number : ℕ) (m : Machine) → HasFewMachines trees → scope_at trees number ≡ within m → HasFewParts m
few_within trees zero m few at = cc
few_within trees (suc k) m few at = one (machines_of trees) k few.each at
  where
    one : (ms : List Machine) (k : ℕ) → All HasFewParts ms → slice_index_or (map within ms) k everywhere ≡ within m → HasFewParts m
    one [] k all at = cc
    one (l ∷ ms) zero all at =
        let same : l ≡ m = cc in
        subst HasFewParts same (All-head HasFewParts l ms all)
    one (l ∷ ms) (suc k) all at = one ms k (All-tail HasFewParts l ms all) at
