-- What the parts of a machine are to its run: its states and events with their numbers, its actions, its written transitions,
-- and the structures of its tables' lines. Numbers count from 0 in the order of the text.
use Rattle.std.specs.Prelude.{ℕ, ◌+◌, ◌==◌, ◌&&◌, Bool, true, not, cond, Option, None, Some, List, [], ◌∷◌, ◌++◌, map, flat_map, filter, filter_map, fold, find, position, unwrap_or, codes}
use Rattle.std.specs.List.{list_any}
use Rattle.std.specs.Option.{option_map}
use Rattle.std.specs.Str.{bytes_eq}
use Rattle.ruby_symbols.specs.declared.machine.Next.{Next}
use Rattle.ruby_symbols.specs.declared.machine.Next.TheVariants.{To, Asked as AskedFor}
use Rattle.slicc_ast.specs.declared.tree.name.Name.{Name}
use Rattle.slicc_ast.specs.declared.tree.item.Tree.{Tree}
use Rattle.slicc_ast.specs.declared.tree.machine.Machine.{Machine}
use Rattle.slicc_ast.specs.declared.tree.machine.Decl.{Decl}
use Rattle.slicc_ast.specs.declared.tree.machine.Decl.TheVariants.{Transition as TransitionDecl}
use Rattle.slicc_ast.specs.declared.tree.machine.NextState.{NextState}
use Rattle.slicc_ast.specs.declared.tree.machine.NextState.TheVariants.{Named, Asked}
use Rattle.slicc_ast.specs.declared.tree.machine.Transition.{Transition}
use Rattle.slicc_ast.specs.declared.tree.machine.Names.{Names}
use Rattle.slicc_ast.specs.declared.tree.machine.Names.TheVariants.{One, Several}
use Rattle.slicc_ast.specs.declared.tree.declaration.Function.{Function}
use Rattle.slicc_ast.specs.declared.tree.declaration.Function.TheVariants.{Plain}
use Rattle.slicc_ast.specs.declared.tree.declaration.Structure.{Structure}
use Rattle.slicc_plan.specs.declared.broken.Broken.{Broken}
use Rattle.slicc_plan.specs.declared.row.Row.{Row}
use Rattle.slicc_plan.specs.declared.row.Written.{Written}
use Rattle.slicc_plan.specs.Attributes.{has_attribute}
use Rattle.slicc_plan.specs.Declarations.{Declaration, first_named, function, structure, is_external, is_named, machine_declarations, machines_of}
use Rattle.slicc_plan.specs.Limits.{event_members, is_action, state_members}

-- Lines. Of several structures that could be it the first counts, which is this project's own.

abbrev pub structure_in : Declaration → List Structure
structure_in (structure s) = cond (is_external s) [] (s ∷ [])
structure_in _ = []

abbrev pub own_structures : Machine → List Structure
own_structures m = flat_map structure_in (machine_declarations m)

abbrev pub is_beside_main : Structure → Bool
is_beside_main s = has_attribute (codes "main") (codes "false") s.pairs

abbrev pub is_entry : Structure → Bool
is_entry s = has_attribute (codes "interface") (codes "AbstractCacheEntry") s.pairs && not (is_beside_main s)

abbrev pub is_directory_entry : Structure → Bool
is_directory_entry s = cond (is_beside_main s) true (has_attribute (codes "interface") (codes "AbstractEntry") s.pairs)

abbrev pub is_tbe : Structure → Bool
is_tbe s = bytes_eq s.name.text (codes "TBE")

-- of the lines of caches, of directories and of TBE tables
abbrev pub entry_structure : Machine → Option Structure
entry_structure m = find is_entry (own_structures m)

abbrev pub directory_structure : Machine → Option Structure
directory_structure m = find is_directory_entry (own_structures m)

abbrev pub tbe_structure : Machine → Option Structure
tbe_structure m = find is_tbe (own_structures m)

-- Functions.

abbrev pub function_found : Option Declaration → Option Function
function_found (Some (function (Plain kind called formals attributes body span))) =
    Some (Plain kind called formals attributes body span)
function_found _ = None

abbrev pub function_named : Machine → List ℕ → Option Function
function_named m text = function_found (first_named text (machine_declarations m))

-- Transitions.

abbrev pub transition_in : Decl → List Transition
transition_in (TransitionDecl t) = t ∷ []
transition_in _ = []

abbrev pub transitions_of : Machine → List Transition
transitions_of m = flat_map transition_in m.declarations

abbrev pub names_in : Names → List Name
names_in (One n) = n ∷ []
names_in (Several ns span) = ns

abbrev pub actions_of : Machine → List Declaration
actions_of m = filter is_action (machine_declarations m)

-- the number of what is declared by this name
abbrev pub number_among : List Declaration → Name → Option ℕ
number_among declarations n = position (is_named n.text) declarations

abbrev pub numbers_among : List Declaration → List Name → List ℕ
numbers_among declarations names = filter_map (number_among declarations) names

abbrev pub includes : List ℕ → ℕ → Bool
includes numbers n = list_any (λ k. k == n) numbers

-- with one more number, unless it is there
abbrev pub with_number : List ℕ → ℕ → List ℕ
with_number numbers n = cond (includes numbers n) numbers (numbers ++ n ∷ [])

-- each of the numbers once
abbrev pub each_once : List ℕ → List ℕ
each_once numbers = fold with_number [] numbers

abbrev pub from_states : Machine → Transition → List ℕ
from_states m t = each_once (numbers_among (state_members m) (names_in t.states))

abbrev pub on_events : Machine → Transition → List ℕ
on_events m t = each_once (numbers_among (event_members m) (names_in t.events))

abbrev pub next_number : Machine → Option NextState → Option Next
next_number m None = None
next_number m (Some (Named n)) = option_map To (number_among (state_members m) n)
next_number m (Some (Asked place)) = Some AskedFor

-- the transition with its names as numbers
abbrev pub written : Machine → Transition → Written
written m t =
    record { states = from_states m t; events = on_events m t; next = next_number m t.next; actions = numbers_among (actions_of m) t.actions; span = t.span }

abbrev pub written_of : Machine → List Written
written_of m = map (written m) (transitions_of m)

-- the state after it is the one before it where the transition has none
abbrev pub row_of : ℕ → ℕ → ℕ → Written → Row
row_of state event number t =
    record { state = state; event = event; next = unwrap_or t.next (To state); actions = t.actions; transition = number }

-- the transition is written for this state and this event
abbrev pub is_for : ℕ → ℕ → Written → Bool
is_for state event t = includes t.states state && includes t.events event

-- of these transitions, which are numbered from here on
abbrev pub rows_from : ℕ → ℕ → ℕ → List Written → List Row
rows_from state event number [] = []
rows_from state event number (t ∷ ts) =
    cond (is_for state event t) (row_of state event number t ∷ []) [] ++ rows_from state event (number + 1) ts

-- the written transitions of a machine for a state and an event
abbrev pub rows : Machine → ℕ → ℕ → List Row
rows m state event = rows_from state event 0 (written_of m)

-- Rules of machines.

-- what a rule of machines finds in each of them, by its number
abbrev pub in_each_from : ℕ → (ℕ → Machine → List Broken) → List Machine → List Broken
in_each_from number found [] = []
in_each_from number found (m ∷ ms) = found number m ++ in_each_from (number + 1) found ms

abbrev pub in_each : (ℕ → Machine → List Broken) → List Tree → List Broken
in_each found trees = in_each_from 0 found (machines_of trees)
