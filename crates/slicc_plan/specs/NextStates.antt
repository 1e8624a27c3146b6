-- A transition has a star as its next state, and its machine has no function that is asked which state that is:
-- `State getNextState(Addr)`, with a block. That is told at the star. The rule is this project's own.
use Rattle.std.specs.Prelude.{ℕ, ◌&&◌, Bool, true, false, cond, Option, None, Some, List, [], ◌∷◌, flat_map, codes}
use Rattle.std.specs.List.{list_any}
use Rattle.slicc_ast.specs.declared.tree.item.Tree.{Tree}
use Rattle.slicc_ast.specs.declared.tree.machine.Machine.{Machine}
use Rattle.slicc_ast.specs.declared.tree.machine.NextState.{NextState}
use Rattle.slicc_ast.specs.declared.tree.machine.NextState.TheVariants.{Asked}
use Rattle.slicc_ast.specs.declared.tree.machine.Transition.{Transition}
use Rattle.slicc_ast.specs.declared.tree.declaration.Function.{Function}
use Rattle.slicc_ast.specs.declared.tree.declaration.Function.TheVariants.{Plain}
use Rattle.slicc_plan.specs.declared.broken.Broken.{Broken}
use Rattle.slicc_plan.specs.declared.broken.Rule.TheVariants.{NextStateFunction}
use Rattle.slicc_plan.specs.declared.built_in.BuiltInType.TheVariants.{Address}
use Rattle.slicc_plan.specs.Declarations.{within}
use Rattle.slicc_plan.specs.Machines.{function_named, in_each, transitions_of}
use Rattle.slicc_plan.specs.StateFunctions.{are_wanted, built_in_type, is_wanted, own_state}
use Rattle.slicc_plan.specs.Types.{type_in}

-- the next state is asked for
abbrev pub is_asked : Option NextState → Bool
is_asked (Some (Asked place)) = true
is_asked _ = false

-- some transition of the machine has a star
abbrev pub asks_next : Machine → Bool
asks_next m = list_any (λ (t : Transition). is_asked t.next) (transitions_of m)

-- the function answers a state of the machine's on an address
abbrev pub answers_next : List Tree → Machine → Option Function → Bool
answers_next trees m (Some (Plain kind called formals attributes (Some body) span)) =
    is_wanted m own_state (type_in trees (within m) kind.text) && are_wanted trees m (built_in_type Address ∷ []) formals.items
answers_next trees m _ = false

-- the next state of a transition in the machine of this number, where it is asked for
abbrev pub unanswered_at : ℕ → Option NextState → List Broken
unanswered_at number (Some (Asked place)) =
    record { rule = NextStateFunction; machine = number; place = place; other = None } ∷ []
unanswered_at number _ = []

abbrev pub unanswered_in : List Tree → ℕ → Machine → List Broken
unanswered_in trees number m =
    cond (answers_next trees m (function_named m (codes "getNextState"))) []
    (flat_map (λ (t : Transition). unanswered_at number t.next) (transitions_of m))

abbrev pub unanswered_stars : List Tree → List Broken
unanswered_stars trees = in_each (unanswered_in trees) trees
