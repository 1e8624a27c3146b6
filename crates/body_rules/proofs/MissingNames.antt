-- A search by names finds what is missing as the definition says it.
use Rattle.std.proofs.Common.{◌≡◌, ℕ, Bool, true, false, cond, is_none, List, [], ◌∷◌, ◌++◌, map, filter, flat_map, position, refl, ap, ◌∙◌}
use Rattle.slicc_ast.specs.declared.tree.name.Name.{Name}
use Rattle.slicc_ast.specs.declared.tree.machine.Machine.{Machine}
use Rattle.slicc_ast.specs.declared.tree.machine.Transition.{Transition}
use Rattle.slicc_plan.specs.Prelude.{Declaration, is_named, event_members, state_members, actions_of, transitions_of, listed_next, missing_among, missing_in, not_there}
use Rattle.slicc_plan.specs.Machines.{names_in}
use Rattle.declaration_rules.proofs.Steps.{flat_map_same}
use Rattle.machine_table.specs.declared.numbers.PartNumbers.{PartNumbers}
use Rattle.machine_table.specs.Prelude.{AreNumbersOf, Finding, found_by}
use Rattle.body_rules.specs.Prelude.{missing_by, missing_with}

one_name : (b : Bool) (n : Name) (ms : List Name) → cond b (not_there n ∷ []) [] ++ map not_there ms ≡ map not_there (cond b (n ∷ ms) ms)
one_name true n ms = refl
one_name false n ms = refl

pub missing_same : (found : Finding) (ds : List Declaration) → ((text : List ℕ) → found text ≡ position (is_named text) ds) → (names : List Name) → flat_map (missing_by found) names ≡ missing_among ds names
missing_same found ds h [] = refl
missing_same found ds h (n ∷ ns) =
    ap (λ bs. missing_by found n ++ bs) (missing_same found ds h ns)
    ∙ ap (λ o. cond (is_none o) (not_there n ∷ []) [] ++ missing_among ds ns) (h n.text)
    ∙ one_name (is_none (position (is_named n.text) ds)) n (filter (λ (m : Name). is_none (position (is_named m.text) ds)) ns)

pub transition_same : (own : PartNumbers) (m : Machine) → AreNumbersOf (state_members m) own.states → AreNumbersOf (event_members m) own.events → AreNumbersOf (actions_of m) own.actions → (t : Transition) → missing_with own t ≡ missing_in m t
transition_same own m states events actions t = λ i.
    missing_same (found_by own.states) (state_members m) states (names_in t.states ++ listed_next t.next) i
    ++ missing_same (found_by own.events) (event_members m) events (names_in t.events) i
    ++ missing_same (found_by own.actions) (actions_of m) actions t.actions i

pub transitions_same : (own : PartNumbers) (m : Machine) → AreNumbersOf (state_members m) own.states → AreNumbersOf (event_members m) own.events → AreNumbersOf (actions_of m) own.actions → flat_map (missing_with own) (transitions_of m) ≡ flat_map (missing_in m) (transitions_of m)
transitions_same own m states events actions =
    flat_map_same (missing_with own) (missing_in m) (transitions_of m) (transition_same own m states events actions)
