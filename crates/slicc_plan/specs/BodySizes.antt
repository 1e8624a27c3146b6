-- A body is too large: it has more than 100,000 parts, where each call of a function of the machine counts what that function's
-- body does too. That is told at the port, action or function. The limit is this project's own.
use Rattle.std.specs.Prelude.{ℕ, zero, suc, ◌+◌, ◌++◌, nat_lt, cond, Option, None, Some, List, [], ◌∷◌, flat_map, length, sum_by}
use Rattle.std.specs.List.{slice_get}
use Rattle.slicc_ast.specs.declared.tree.item.Tree.{Tree}
use Rattle.slicc_ast.specs.declared.tree.machine.Machine.{Machine}
use Rattle.slicc_plan.specs.declared.broken.Broken.{Broken}
use Rattle.slicc_plan.specs.declared.broken.Rule.TheVariants.{BodyTooLarge}
use Rattle.slicc_plan.specs.declared.part.Body.{Body}
use Rattle.slicc_plan.specs.BodyParts.{action_bodies, function_bodies, port_bodies}
use Rattle.slicc_plan.specs.Machines.{in_each}

abbrev pub largest_body : ℕ
largest_body = 100000

-- a body's size where that of each function that it calls is known
abbrev pub size_with : (ℕ → ℕ) → Body → ℕ
size_with callee b = b.size + sum_by callee b.calls

abbrev pub size_or_none : (ℕ → ℕ) → Option Body → ℕ
size_or_none callee None = 0
size_or_none callee (Some b) = size_with callee b

-- the size of the function of this number, with calls in it counted so deep
abbrev pub function_size : ℕ → List Body → ℕ → ℕ
function_size zero functions k = 0
function_size (suc depth) functions k = size_or_none (function_size depth functions) (slice_get functions k)

-- Calls are not deeper than there are functions, where they go in no circle. Where they do, the circle is told first.
abbrev pub whole_size : List Body → Body → ℕ
whole_size functions b = size_with (function_size (length functions) functions) b

abbrev pub large_at : ℕ → List Body → Body → List Broken
large_at number functions b =
    cond (nat_lt largest_body (whole_size functions b))
    (record { rule = BodyTooLarge; machine = number; place = b.place; other = None } ∷ []) []

abbrev pub large_among : ℕ → List Body → List Body → List Broken
large_among number functions bodies = flat_map (large_at number functions) bodies

abbrev pub large_bodies_in : List Tree → ℕ → Machine → List Broken
large_bodies_in trees number m =
    large_among number (function_bodies trees m) (function_bodies trees m)
    ++ large_among number (function_bodies trees m) (action_bodies trees m)
    ++ large_among number (function_bodies trees m) (port_bodies trees m)

abbrev pub large_bodies : List Tree → List Broken
large_bodies trees = in_each (large_bodies_in trees) trees
