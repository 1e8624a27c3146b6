-- Functions of a machine call each other in a circle, which is told at the first function that is on one. A call without a
-- receiver is of the machine's function of that name, where it has one with a body.
use Rattle.std.specs.Prelude.{ℕ, zero, suc, ◌+◌, ◌==◌, ◌||◌, ◌++◌, ◌≡◌, ◌↔◌, ◌<◌, Bool, true, false, cond, Contains, Option, None, Some, List, [], ◌∷◌, length}
use Rattle.std.specs.List.{list_any, slice_get}
use Rattle.slicc_ast.specs.declared.tree.item.Tree.{Tree}
use Rattle.slicc_ast.specs.declared.tree.machine.Machine.{Machine}
use Rattle.slicc_plan.specs.declared.broken.Broken.{Broken}
use Rattle.slicc_plan.specs.declared.broken.Rule.TheVariants.{CallCircle}
use Rattle.slicc_plan.specs.declared.part.Body.{Body}
use Rattle.slicc_plan.specs.BodyParts.{function_bodies}
use Rattle.slicc_plan.specs.Machines.{in_each}

abbrev pub calls_or_none : Option Body → List ℕ
calls_or_none None = []
calls_or_none (Some b) = b.calls

-- the numbers of the functions that the function of this number calls
abbrev pub calls_at : List Body → ℕ → List ℕ
calls_at functions k = calls_or_none (slice_get functions k)

-- One of these calls is of function k, or of one that calls it, or of one that calls such a one, and so on.
pub data Reaches (functions : List Body) (k : ℕ) : List ℕ → Type 0 where
  directly : {calls : List ℕ} → Contains calls k → Reaches functions k calls
  through : {calls : List ℕ} (c : ℕ) → Contains calls c → Reaches functions k (calls_at functions c) → Reaches functions k calls

-- the same with at most so many calls one inside the other
abbrev pub reaches_within : ℕ → List Body → ℕ → List ℕ → Bool
reaches_within zero functions k calls = false
reaches_within (suc depth) functions k calls =
    list_any (λ c. (c == k) || reaches_within depth functions k (calls_at functions c)) calls

-- The same, decided: on the shortest way to a function no other is called twice, so that there are no more calls than functions.
abbrev pub is_reached : List Body → ℕ → List ℕ → Bool
is_reached functions k calls = reaches_within (length functions) functions k calls

-- What is decided is that, of the functions that there are. No contract says this yet.
abbrev pub IsReaching : Type 0
IsReaching = (functions : List Body) (k : ℕ) (calls : List ℕ) → k < length functions → is_reached functions k calls ≡ true ↔ Reaches functions k calls

abbrev pub circle_at : ℕ → List Body → ℕ → Body → List Broken
circle_at number functions k b =
    cond (is_reached functions k b.calls)
    (record { rule = CallCircle; machine = number; place = b.place; other = None } ∷ []) []

-- of these functions, which are numbered from here on
abbrev pub circles_from : ℕ → List Body → ℕ → List Body → List Broken
circles_from number functions k [] = []
circles_from number functions k (b ∷ bs) =
    circle_at number functions k b ++ circles_from number functions (k + 1) bs

abbrev pub circles_among : ℕ → List Body → List Broken
circles_among number functions = circles_from number functions 0 functions

abbrev pub circles_in : List Tree → ℕ → Machine → List Broken
circles_in trees number m = circles_among number (function_bodies trees m)

abbrev pub call_circles : List Tree → List Broken
call_circles trees = in_each (circles_in trees) trees
