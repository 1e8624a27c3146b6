-- What only reads changes something: the body of a port, `getState`, `getNextState` in a machine where a transition has a star
-- as its next state, or a function that one of them calls, itself or by other functions. Locals may be changed, and nothing else: no field, no list of machines and no block that isn't a local, and none of
-- the lines that tables have and that a transition is about. That is told where it changes. The rule is this project's own.
use Rattle.std.specs.Prelude.{ℕ, ◌+◌, ◌++◌, cond, Option, None, Some, List, [], ◌∷◌, codes, flat_map, map}
use Rattle.slicc_ast.specs.declared.tree.span.Span.{Span}
use Rattle.slicc_ast.specs.declared.tree.item.Tree.{Tree}
use Rattle.slicc_ast.specs.declared.tree.machine.Machine.{Machine}
use Rattle.slicc_plan.specs.declared.broken.Broken.{Broken}
use Rattle.slicc_plan.specs.declared.broken.Rule.TheVariants.{Changes}
use Rattle.slicc_plan.specs.declared.part.Body.{Body}
use Rattle.slicc_plan.specs.BodyParts.{function_bodies, names_of_written, number_in, port_bodies, written_functions}
use Rattle.slicc_plan.specs.CallsBetween.{is_reached}
use Rattle.slicc_plan.specs.Machines.{in_each}
use Rattle.slicc_plan.specs.NextStates.{asks_next}

abbrev pub changes_at : ℕ → Body → List Broken
changes_at number b =
    map (λ (place : Span). record { rule = Changes; machine = number; place = place; other = None }) b.changes

abbrev pub call_of : Option ℕ → List ℕ
call_of None = []
call_of (Some k) = k ∷ []

-- the functions that are called to read: those that a run itself calls, which are these, and those that ports call
abbrev pub reading_calls : List Body → List ℕ → List ℕ
reading_calls ports asked = asked ++ flat_map (λ (b : Body). b.calls) ports

-- of these functions, which are numbered from here on, those that one of the calls reaches
abbrev pub reached_changes : ℕ → List Body → List ℕ → ℕ → List Body → List Broken
reached_changes number functions calls k [] = []
reached_changes number functions calls k (b ∷ bs) =
    cond (is_reached functions k calls) (changes_at number b) []
    ++ reached_changes number functions calls (k + 1) bs

abbrev pub changes_among : ℕ → List Body → List Body → List ℕ → List Broken
changes_among number functions ports asked =
    flat_map (changes_at number) ports
    ++ reached_changes number functions (reading_calls ports asked) 0 functions

-- the numbers of `getState` and, where a transition has a star, of `getNextState`, among functions of these names
abbrev pub asked_functions : List (List ℕ) → Machine → List ℕ
asked_functions names m =
    call_of (number_in names (codes "getState"))
    ++ cond (asks_next m) (call_of (number_in names (codes "getNextState"))) []

abbrev pub reading_changes_in : List Tree → ℕ → Machine → List Broken
reading_changes_in trees number m =
    changes_among number (function_bodies trees m) (port_bodies trees m)
    (asked_functions (names_of_written (written_functions m)) m)

abbrev pub reading_changes : List Tree → List Broken
reading_changes trees = in_each (reading_changes_in trees) trees
