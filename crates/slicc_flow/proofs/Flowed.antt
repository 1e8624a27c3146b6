-- What transitions check tells what they need, and the first that is found is the first broken rule of flow.
use Rattle.std.proofs.Common.{◌≡◌, ℕ, Option, None, Some, Result, Err, List, [], ◌∷◌, map, slice_get, refl, sym, ap, ◌∙◌, subst}
use Rattle.std.proofs.lemmas.Option.{slice_get-map}
use Rattle.std.specs.Option.{option_map}
use Rattle.slicc_ast.specs.declared.tree.item.Tree.{Tree}
use Rattle.slicc_ast.specs.declared.tree.machine.Machine.{Machine}
use Rattle.slicc_ast.specs.declared.tree.machine.Transition.{Transition}
use Rattle.slicc_plan.specs.declared.broken.Broken.{Broken}
use Rattle.slicc_plan.specs.Prelude.{machines_of, transitions_of, IsFirstBroken, IsFirstOf, first_after, IsAnswered, refusal_of, checks_of, needs, needs_of}
use Rattle.slicc_plan.specs.BrokenDeclarations.{breaks_one}
use Rattle.slicc_plan.specs.declared.refusal.Refusal.{Refusal}
use Rattle.slicc_plan.specs.TableNeeds.{need_of}
use Rattle.slicc_plan.proofs.Firsts.{first_after_none}
use Rattle.slicc_flow.specs.declared.machine.MachineBodies.{MachineBodies}
use Rattle.slicc_flow.specs.Prelude.{all_checks, count_in, count_of, machine_checks, of_transition, IsFlowOf, IsFlowOrBroken, broken_flow, all_bodies, bodies_in, checks_in}
use Rattle.slicc_flow.specs.Machines.{found_in}
use Rattle.slicc_flow.proofs.Judged.{found_same}

transition_counted : (trees : List Tree) (m : Machine) (table : ℕ) (o : Option Transition) → count_of table (option_map (checks_of trees m) o) ≡ need_of trees m table o
transition_counted trees m table None = refl
transition_counted trees m table (Some t) = refl

machine_counted : (trees : List Tree) (transition table : ℕ) (o : Option Machine) → count_of table (of_transition (option_map (machine_checks trees) o) transition) ≡ needs_of trees transition table o
machine_counted trees transition table None = refl
machine_counted trees transition table (Some m) =
    ap (count_of table) (slice_get-map (checks_of trees m) (transitions_of m) transition)
    ∙ transition_counted trees m table (slice_get (transitions_of m) transition)

counted : (trees : List Tree) (machine transition table : ℕ) → count_in (all_checks trees) machine transition table ≡ needs trees machine transition table
counted trees machine transition table =
    ap (λ o. count_of table (of_transition o transition)) (slice_get-map (machine_checks trees) (machines_of trees) machine)
    ∙ machine_counted trees transition table (slice_get (machines_of trees) machine)

checks_same : (trees : List Tree) (ms : List Machine) → checks_in (map (bodies_in trees) ms) ≡ map (machine_checks trees) ms
checks_same trees [] = refl
checks_same trees (m ∷ ms) = ap (λ xs. machine_checks trees m ∷ xs) (checks_same trees ms)

-- the first that is found in all machines is the first broken rule
is_first : (trees lent : List Tree) (machines found : List MachineBodies) (r : Option Broken) → lent ≡ trees → machines ≡ all_bodies lent → found ≡ machines → r ≡ first_after None (found_in found) → IsFirstOf (broken_flow trees) r
is_first trees lent machines found r same is are e =
    subst (IsFirstOf (broken_flow trees)) (sym (e ∙ ap (first_after None) (found_same trees found (are ∙ is ∙ ap all_bodies same)))) (first_after_none (broken_flow trees))

pub is_broken : (trees lent : List Tree) (machines found : List MachineBodies) (r : Option Broken) (b : Broken) → lent ≡ trees → machines ≡ all_bodies lent → found ≡ machines → r ≡ first_after None (found_in found) → r ≡ Some b → IsFirstBroken (broken_flow trees) b
is_broken trees lent machines found r b same is are e some =
    subst (IsFirstOf (broken_flow trees)) some (is_first trees lent machines found r same is are e)

pub is_flow : (trees lent : List Tree) (machines found : List MachineBodies) (r : Option Broken) (checks : List (List (List ℕ))) → lent ≡ trees → machines ≡ all_bodies lent → found ≡ machines → r ≡ first_after None (found_in found) → r ≡ None → checks ≡ checks_in machines → IsFlowOf trees checks
is_flow trees lent machines found r checks same is are e none as_read =
    record {
      keeps_all = subst (IsFirstOf (broken_flow trees)) none (is_first trees lent machines found r same is are e);
      needs_all = λ machine transition table. ap (λ xs. count_in xs machine transition table) (as_read ∙ ap checks_in (is ∙ ap all_bodies same) ∙ checks_same trees (machines_of trees)) ∙ counted trees machine transition table;
    }

pub is_answered : (trees : List Tree) (x : Result (List (List (List ℕ))) Broken) (b : Broken) (r : Refusal) → IsFlowOrBroken trees x → x ≡ Err b → r ≡ refusal_of b → IsAnswered (broken_flow trees) (Some r)
is_answered trees x b r answered is e =
    subst (λ y. IsAnswered (broken_flow trees) (Some y)) (sym e) (breaks_one (subst (IsFlowOrBroken trees) is answered))
