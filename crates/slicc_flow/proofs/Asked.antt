-- Whether the next state of some transition is asked for, declaration by declaration.
use Rattle.std.proofs.Common.{◌≡◌, ◌+◌, ◌<◌, ◌||◌, ◌∷◌, ◌++◌, ◌∙◌, ℕ, Bool, true, cond, Option, List, [], length, drop, flat_map, get_or, sym, ap}
use Rattle.std.specs.List.{list_any}
use Rattle.std.proofs.lemmas.List.{drop_more}
use Rattle.std.proofs.lemmas.List.Folds.{list_any-append}
use Rattle.slicc_ast.specs.declared.tree.machine.Decl.{Decl}
use Rattle.slicc_ast.specs.declared.tree.machine.Transition.{Transition}
use Rattle.slicc_plan.specs.Prelude.{call_of, is_asked, transition_in}

abbrev pub asked_in : Decl → Bool
asked_in d = list_any (λ (t : Transition). is_asked t.next) (transition_in d)

abbrev pub asked_among : List Decl → Bool
asked_among ds = list_any (λ (t : Transition). is_asked t.next) (flat_map transition_in ds)

pub first_asked : (ds : List Decl) (i : ℕ) (d : Decl) → i < length ds → d ≡ get_or ds i d → asked_among (drop i ds) ≡ asked_in d || asked_among (drop (i + 1) ds)
first_asked ds i d below at =
    ap asked_among (drop_more ds i d below ∙ ap (λ x. x ∷ drop (i + 1) ds) (sym at))
    ∙ list_any-append (λ (t : Transition). is_asked t.next) (transition_in d) (flat_map transition_in (drop (i + 1) ds))

-- the functions that are asked, where a next state is asked for
pub asked_with : (b : Bool) (first : Option ℕ) (next : Option ℕ) (asked all : List ℕ) → b ≡ true → asked ≡ [] ++ call_of first → all ≡ asked ++ call_of next → all ≡ call_of first ++ cond b (call_of next) []
asked_with b first next asked all holds is more =
    more ∙ ap (λ xs. xs ++ call_of next) is ∙ ap (λ x. call_of first ++ cond x (call_of next) []) (sym holds)
