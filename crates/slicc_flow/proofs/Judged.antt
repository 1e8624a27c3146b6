-- The bodies of all machines, and what is found in each.
use Rattle.std.proofs.Common.{◌≡◌, ◌+◌, ◌<◌, ◌≤◌, ◌++◌, ◌∷◌, ℕ, List, [], Option, length, map, get_or, take, drop, drop-cons, add-one, flat_map, refl, sym, subst, ap, ◌∙◌, append-nil}
use Rattle.std.proofs.lemmas.List.{length-map, take_all, take_more}
use Rattle.std.proofs.lemmas.Grind.{flat_map-append}
use Rattle.slicc_ast.specs.declared.tree.item.Tree.{Tree}
use Rattle.slicc_ast.specs.declared.tree.machine.Machine.{Machine}
use Rattle.slicc_plan.specs.declared.broken.Broken.{Broken}
use Rattle.slicc_plan.specs.Prelude.{declared_in, everywhere, within, machines_of, wide_scopes, in_each_from, first_after, Names, directory_names, is_table_type, name_of_type, names_of_written, table_names, with_name, written_functions, large_bodies, call_circles, is_built_in, type_in}
use Rattle.slicc_plan.proofs.Firsts.{first_after-append}
use Rattle.std.specs.List.{fold}
use Rattle.slicc_plan.specs.declared.built_in.BuiltInType.TheVariants.{Directory}
use Rattle.slicc_plan.specs.BodyParts.{names_in}
use Rattle.declared_types.specs.Prelude.{scope_at}
use Rattle.slicc_flow.proofs.FirstOf.{first_of_three}
use Rattle.slicc_flow.specs.Prelude.{is_sort_name, broken_flow, all_bodies, bodies_at, bodies_in, bodies_of_scope, bodies_with, changes_of, circles_of, each_from, large_of}
use Rattle.slicc_flow.specs.declared.names.TableSort.TheVariants.{Any, Directory as OfDirectory}
use Rattle.slicc_flow.specs.declared.machine.MachineBodies.{MachineBodies}
use Rattle.slicc_flow.specs.Machines.{found_in}

pub each_same : (trees : List Tree) (found : ℕ → MachineBodies → List Broken) (number : ℕ) (ms : List Machine) → each_from found number (map (bodies_in trees) ms) ≡ in_each_from number (λ n m. found n (bodies_in trees m)) ms
each_same trees found number [] = refl
each_same trees found number (m ∷ ms) = ap (λ xs. found number (bodies_in trees m) ++ xs) (each_same trees found (number + 1) ms)

within_all : (trees : List Tree) (ms : List Machine) → flat_map (bodies_of_scope trees) (map within ms) ≡ map (bodies_in trees) ms
within_all trees [] = refl
within_all trees (m ∷ ms) = ap (λ xs. bodies_in trees m ∷ xs) (within_all trees ms)

pub scopes_all : (trees : List Tree) (n : ℕ) → length (wide_scopes trees) ≤ n → flat_map (bodies_of_scope trees) (take n (wide_scopes trees)) ≡ all_bodies trees
scopes_all trees n le = ap (flat_map (bodies_of_scope trees)) (take_all n (wide_scopes trees) le) ∙ within_all trees (machines_of trees)

-- there are as many as machines
pub few_bodies : (trees : List Tree) (machines : List MachineBodies) → machines ≡ all_bodies trees → length (machines_of trees) ≤ 16 → length machines ≤ 16
few_bodies trees machines is few = subst (λ n. n ≤ 16) (sym (ap length is ∙ length-map (machines_of trees) (bodies_in trees))) few

pub scope_step : (trees : List Tree) (scope : ℕ) (old new : List MachineBodies) → scope < length (wide_scopes trees) → old ≡ flat_map (bodies_of_scope trees) (take scope (wide_scopes trees)) → new ≡ old ++ bodies_at trees scope → new ≡ flat_map (bodies_of_scope trees) (take (scope + 1) (wide_scopes trees))
scope_step trees scope old new below is next =
    next ∙ ap (λ xs. xs ++ bodies_at trees scope) is
    ∙ ap (λ xs. flat_map (bodies_of_scope trees) (take scope (wide_scopes trees)) ++ xs) (sym (append-nil (bodies_at trees scope)))
    ∙ sym (flat_map-append (bodies_of_scope trees) (take scope (wide_scopes trees)) (get_or (wide_scopes trees) scope everywhere ∷ []))
    ∙ ap (flat_map (bodies_of_scope trees)) (sym (take_more (wide_scopes trees) scope everywhere below))

pub each_step : (found : ℕ → MachineBodies → List Broken) (bs : List MachineBodies) (k : ℕ) (d : MachineBodies) (o p start : Option Broken) (all : List Broken) → k < length bs → first_after start all ≡ first_after o (each_from found k (drop k bs)) → p ≡ first_after o (found k (get_or bs k d)) → first_after start all ≡ first_after p (each_from found (k + 1) (drop (k + 1) bs))
each_step found bs k d o p start all below is next =
    let split : drop k bs ≡ get_or bs k d ∷ drop (k + 1) bs = rw (add-one) (drop-cons bs k d below) in
    is ∙ ap (λ xs. first_after o (each_from found k xs)) split
    ∙ first_after-append o (found k (get_or bs k d)) (each_from found (k + 1) (drop (k + 1) bs))
    ∙ ap (λ q. first_after q (each_from found (k + 1) (drop (k + 1) bs))) (sym next)

abbrev named_by : List (List ℕ) → List (List ℕ) → List (List ℕ) → Names
named_by fs ts ds = record { functions = fs; tables = ts; directories = ds }

-- what names stand for in the machine of a scope
pub named : (trees : List Tree) (scope : ℕ) (m : Machine) (n : Names) (fs ts ds : List (List ℕ)) → scope_at trees scope ≡ within m → n.functions ≡ fs → n.tables ≡ ts → n.directories ≡ ds → fs ≡ names_of_written (written_functions m) → ts ≡ fold with_name [] (flat_map (name_of_type (is_sort_name Any trees scope)) (declared_in trees (scope_at trees scope))) → ds ≡ fold with_name [] (flat_map (name_of_type (is_sort_name OfDirectory trees scope)) (declared_in trees (scope_at trees scope))) → n ≡ names_in trees m
named trees scope m n fs ts ds at f t d fi ti di =
    let tables : n.tables ≡ table_names trees m = t ∙ ti ∙ ap (λ s. fold with_name [] (flat_map (name_of_type (λ kind. is_table_type (type_in trees s kind))) (declared_in trees s))) at in
    let directories : n.directories ≡ directory_names trees m = d ∙ di ∙ ap (λ s. fold with_name [] (flat_map (name_of_type (λ kind. is_built_in Directory (type_in trees s kind))) (declared_in trees s))) at in
    let functions : n.functions ≡ names_of_written (written_functions m) = f ∙ fi in
    ap (λ x. named_by x n.tables n.directories) functions ∙ ap (λ x. named_by (names_of_written (written_functions m)) x n.directories) tables
    ∙ ap (λ x. named_by (names_of_written (written_functions m)) (table_names trees m) x) directories

-- three lists one behind the other, found in machines
pub judged : (first p q r : Option Broken) (machines : List MachineBodies) → p ≡ first_after first (each_from circles_of 0 machines) → q ≡ first_after p (each_from large_of 0 machines) → r ≡ first_after q (each_from changes_of 0 machines) → r ≡ first_after first (found_in machines)
judged first p q r machines c l h =
    first_of_three first p q r (each_from circles_of 0 machines) (each_from large_of 0 machines) (each_from changes_of 0 machines) c l h

pub found_same : (trees : List Tree) (machines : List MachineBodies) → machines ≡ all_bodies trees → found_in machines ≡ broken_flow trees
found_same trees machines is =
    ap found_in is
    ∙ ap (λ xs. (xs ++ each_from large_of 0 (all_bodies trees)) ++ each_from changes_of 0 (all_bodies trees)) (each_same trees circles_of 0 (machines_of trees))
    ∙ ap (λ xs. (call_circles trees ++ xs) ++ each_from changes_of 0 (all_bodies trees)) (each_same trees large_of 0 (machines_of trees))
    ∙ ap (λ xs. (call_circles trees ++ large_bodies trees) ++ xs) (each_same trees changes_of 0 (machines_of trees))

pub broken_all : (trees : List Tree) (machines : List MachineBodies) (first r : Option Broken) → machines ≡ all_bodies trees → r ≡ first_after first (found_in machines) → r ≡ first_after first (broken_flow trees)
broken_all trees machines first r is e = e ∙ ap (first_after first) (found_same trees machines is)

pub placed : (trees : List Tree) (m : Machine) (names : Names) (r : MachineBodies) → names ≡ names_in trees m → r ≡ bodies_with names m → r ≡ bodies_in trees m
placed trees m names r is e = e ∙ ap (λ n. bodies_with n m) is
